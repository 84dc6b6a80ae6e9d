-- What each numbered event keeps holds after every numbered history.
use Rattle.std.proofs.Common.{◌≡◌, ℕ, suc, ◌+◌, List, [], ◌∷◌, length, Some, refl, subst, arith}
use Rattle.std.specs.Prelude.{fold, slice_get}
use Rattle.venue_words.specs.declared.command.Event.{Event}
use Rattle.eager_meaning.specs.Step.{IsNumbered}

-- the events are numbered on from a number
abbrev pub IsNumberedFrom : ℕ → List Event → Type 0
IsNumberedFrom n events = (k : ℕ) (event : Event) → slice_get events k ≡ Some event → event.number ≡ n + k + 1

pub kept_by_all : {S : Type 0} (next : S → Event → S) (P : ℕ → S → Type 0) → ((n : ℕ) (run : S) (event : Event) → event.number ≡ n + 1 → P n run → P (n + 1) (next run event))
    → (n : ℕ) (run : S) (events : List Event) → IsNumberedFrom n events → P n run → P (n + length events) (fold next run events)
kept_by_all next P h n run [] numbered p = let e : n ≡ n + 0 = omega arith in subst (λ (m : ℕ). P m run) e p
kept_by_all next P h n run (event ∷ events) numbered p =
    let first : event.number ≡ n + 1 = (let e = numbered 0 event refl in omega arith) in
    let rest : IsNumberedFrom (n + 1) events = λ k later is. let e = numbered (suc k) later is in omega arith in
    let all = kept_by_all next P h (n + 1) (next run event) events rest (h n run event first p) in
    let e : n + 1 + length events ≡ n + suc (length events) = omega arith in
    subst (λ (m : ℕ). P m (fold next (next run event) events)) e all

pub numbered_from_none : (events : List Event) → IsNumbered events → IsNumberedFrom 0 events
numbered_from_none events h = λ k event is. let e = h k event is in omega arith
