-- One more message, by its frame and what is left.
use Rattle.std.proofs.Common.{◌≡◌, ℕ, ◌+◌, ◌<◌, ◌++◌, List, [], ◌∷◌, length, get_or, drop, refl, ◌∙◌, append_assoc, arith}
use Rattle.std.proofs.lemmas.List.{drop_more}
use Rattle.std.specs.Prelude.{ℤ}
use Rattle.session_core.specs.declared.message.Message.{Message}
use Rattle.session_core.specs.Bodies.{message as message_of}
use Rattle.session_core.specs.Frames.{new_frame, new_frames}
use Rattle.session_core.proofs.frames.push_new_frames.Goals as goal

one_more : (member : List ℕ) (moment : ℤ) (number i : ℕ) (messages : List Message) (message : Message) (body frame : List ℕ) (before items : List (List ℕ)) →
    i < length messages → message ≡ get_or messages i message → body ≡ message.body →
    items ≡ before ++ frame ∷ [] → frame ≡ new_frame member moment number (message_of message.kind body) →
    items ++ new_frames member moment (number + 1) (drop (i + 1) messages) ≡ before ++ new_frames member moment number (drop i messages)
unfolding new_frames new_frame
one_more member moment number i messages message body frame before items l e same f r =
    rw (f, r, same, drop_more messages i message l, ← e, append_assoc) refl

pub loop-message-preserved : goal.loop-message-preserved
loop-message-preserved c = record {
  counted = omega arith;
  framed =
      let m = c.loop-message in
      one_more _ _ m.number m.message-index c.args.messages.now c.message-item.result c.as_slice-body.result.now c.in_ok-new_frame.field-0 m.frames.items c.push.new.self.items
      c.loop-message-test.true c.message-item.is c.as_slice-body.ensures c.in_ok-push.ensures.items c.in_ok-new_frame.ensures
      ∙ c.loop-message.invariant.framed;
}
