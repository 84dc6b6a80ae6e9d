-- When nothing is sent.
use Rattle.std.proofs.Common.{◌≡◌, ◌↔◌, ◌⊎◌, inl, inr, ℤ, Bool, true, false, cond, IsTrue, List, [], ◌∷◌, refl, ap, ◌∙◌}
use Rattle.session_core.specs.declared.message.Message.{Message}
use Rattle.session_core.specs.State.{is_up}
use Rattle.session_core.specs.Frames.{new_frames}
use Rattle.session_core.specs.Machine.{Machine, IsUp, rests, on_send}
use Rattle.session_core.specs.Runs.{send_if_up}

none_sent : (session : Machine) (moment : ℤ) (up : Bool) (messages : List Message) → (cond up (on_send session messages moment) (rests session)).turn.replies ≡ [] → (IsTrue up → ⊥) ⊎ (messages ≡ [])
unfolding on_send new_frames
none_sent session moment true [] h = inr refl
none_sent session moment true (message ∷ messages) h = absurd (cc)
none_sent session moment false messages h = inl (λ e. absurd (cc))

none_to_send : (session : Machine) (moment : ℤ) (up : Bool) → (cond up (on_send session [] moment) (rests session)).turn.replies ≡ []
unfolding on_send new_frames
none_to_send session moment true = refl
none_to_send session moment false = refl

not_up : (session : Machine) (messages : List Message) (moment : ℤ) (up : Bool) → (IsTrue up → ⊥) → (cond up (on_send session messages moment) (rests session)).turn.replies ≡ []
not_up session messages moment true none = absurd (none refl)
not_up session messages moment false none = refl

nothing : (session : Machine) (messages : List Message) (moment : ℤ) → (IsUp session → ⊥) ⊎ (messages ≡ []) → (send_if_up session messages moment).turn.replies ≡ []
nothing session messages moment (inl none) = not_up session messages moment (is_up session.state) none
nothing session messages moment (inr e) =
    ap (λ (ms : List Message). (cond (is_up session.state) (on_send session ms moment) (rests session)).turn.replies) e ∙ none_to_send session moment (is_up session.state)

pub empty_exactly : (session : Machine) (messages : List Message) (moment : ℤ) → ((send_if_up session messages moment).turn.replies ≡ []) ↔ ((IsUp session → ⊥) ⊎ (messages ≡ []))
empty_exactly session messages moment = (λ h. none_sent session moment (is_up session.state) messages h, λ h. nothing session messages moment h)
