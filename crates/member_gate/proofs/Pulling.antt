-- What a session that is up is sent.
use Rattle.std.proofs.Common.{◌≡◌, ℤ, List, refl, ap, ◌∙◌}
use Rattle.std.specs.Prelude.{ℕ}
use Rattle.session_core.specs.declared.message.Message.{Message}
use Rattle.session_core.specs.Machine.{Machine, Outcome, IsUp, on_send}
use Rattle.session_core.specs.Runs.{send_if_up}

sent : (session : Machine) (messages past : List Message) (moment read : ℤ) → IsUp session → read ≡ moment → messages ≡ past
    → on_send session messages read ≡ send_if_up session past moment
sent session messages past moment read up e m = rw (up, e, m) refl

pub sent_replies : (session : Machine) (messages past : List Message) (moment read : ℤ) (frames : List (List ℕ)) → IsUp session → read ≡ moment → messages ≡ past
    → frames ≡ (on_send session messages read).turn.replies → frames ≡ (send_if_up session past moment).turn.replies
sent_replies session messages past moment read frames up e m f = f ∙ ap (λ (o : Outcome). o.turn.replies) (sent session messages past moment read up e m)

pub sent_machine : (session : Machine) (messages past : List Message) (moment read : ℤ) (next : Machine) → IsUp session → read ≡ moment → messages ≡ past
    → next ≡ (on_send session messages read).machine → next ≡ (send_if_up session past moment).machine
sent_machine session messages past moment read next up e m f = f ∙ ap (λ (o : Outcome). o.machine) (sent session messages past moment read up e m)
