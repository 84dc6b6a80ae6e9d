-- One more message behind those that stand in the list.
use Rattle.std.proofs.Common.{◌≡◌, ℕ, ◌+◌, ◌<◌, ◌++◌, List, [], ◌∷◌, length, take, get_or, ap, sym, ◌∙◌}
use Rattle.std.proofs.lemmas.List.{take_more}
use Rattle.session_core.specs.declared.message.Message.{Message}
use Rattle.session_core.specs.Bodies.{message}
use Rattle.message_laws.proofs.runs.listed.Goals as goal

listed_more : (messages : List Message) (one : Message) (i : ℕ) (body : List ℕ) (list next : List Message) →
    i < length messages → one ≡ get_or messages i one → body ≡ one.body → list ≡ take i messages →
    next ≡ list ++ message one.kind body ∷ [] → next ≡ take (i + 1) messages
listed_more messages one i body list next l is same e n =
    n ∙ ap (λ (ms : List Message). ms ++ message one.kind body ∷ []) e
    ∙ ap (λ (bytes : List ℕ). take i messages ++ message one.kind bytes ∷ []) same
    ∙ ap (λ (m : Message). take i messages ++ m ∷ []) is
    ∙ sym (take_more messages i one l)

pub loop-message-preserved : goal.loop-message-preserved
loop-message-preserved c =
    listed_more c.args.messages.now c.message-item.result c.loop-message.message-index c.as_slice.result.now c.loop-message.list c.push.new.self
    c.loop-message-test.true c.message-item.is c.as_slice.ensures c.loop-message.invariant c.in_ok-push.ensures.ok
