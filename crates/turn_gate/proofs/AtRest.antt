-- What is known of a seat between two calls.
use Rattle.std.proofs.Common.{◌≡◌, ℕ, List, [], ◌∷◌, sym, ap, ◌∙◌, subst}
use Rattle.atomic_table.specs.Seated.{TableId}
use Rattle.atomic_table.specs.Table.{rest}
use Rattle.turn_gate.specs.declared.view.SeatView.{SeatView}
use Rattle.turn_gate.specs.Seats.{IsAtRest, IsOneSeat, SeatState, seat_state, seat_state_in}

pub at_rest : (seats : List SeatView) (seat : SeatView) → IsOneSeat seats → seats ≡ seat ∷ [] → IsAtRest seat
at_rest seats seat one is = let same : one.seat ≡ seat = (let a = one.only in cc) in subst IsAtRest same one.at_rest

pub state_is : (table : TableId) (seats : List SeatView) (seat : SeatView) (state : SeatState) → seat_state_in table seats ≡ state → seats ≡ seat ∷ [] → seat_state table seat ≡ state
state_is table seats seat state is only = sym (ap (seat_state_in table) only) ∙ is

-- what is in front of a list of one slot
pub front : {A : Type 0} (xs : List (ℕ × A)) (x : ℕ × A) → xs ≡ x ∷ [] → xs ≡ x ∷ rest xs
front {A} xs x is = is ∙ ap (λ (ys : List (ℕ × A)). x ∷ rest ys) (sym is)
