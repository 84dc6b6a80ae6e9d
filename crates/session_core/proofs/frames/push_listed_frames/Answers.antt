-- One more message, by its frame and what is left.
use Rattle.std.proofs.Common.{◌≡◌, ℕ, ◌+◌, ◌<◌, ◌++◌, List, [], ◌∷◌, length, get_or, drop, refl, ◌∙◌, append_assoc, arith}
use Rattle.std.proofs.lemmas.List.{drop_more}
use Rattle.std.specs.Prelude.{ℤ}
use Rattle.session_core.specs.declared.message.Message.{Message}
use Rattle.session_core.specs.Frames.{new_frame, new_frames}
use Rattle.session_core.proofs.frames.push_listed_frames.Goals as goal

one_more : (member : List ℕ) (moment : ℤ) (number i : ℕ) (messages : List Message) (message shown : Message) (frame : List ℕ) (before items : List (List ℕ)) →
    i < length messages → message ≡ get_or messages i message →
    items ≡ before ++ frame ∷ [] → frame ≡ new_frame member moment number shown → shown ≡ message →
    items ++ new_frames member moment (number + 1) (drop (i + 1) messages) ≡ before ++ new_frames member moment number (drop i messages)
unfolding new_frames new_frame
one_more member moment number i messages message shown frame before items l e f r v =
    rw (f, r, v, drop_more messages i message l, ← e, append_assoc) refl

pub loop-place-preserved : goal.loop-place-preserved
loop-place-preserved c = record {
  counted = omega arith;
  framed =
      let m = c.loop-place in
      let inside : m.place < length c.args.messages.now = omega arith in
      one_more _ _ m.number m.place c.args.messages.now c.get-message.result _ c.in_ok-new_frame.field-0 m.frames.items c.push.new.self.items
      inside c.get-message.ensures c.in_ok-push.ensures.items c.in_ok-new_frame.ensures c.message.view_is
      ∙ m.invariant.framed;
}
