-- One seat after another is split.
use Rattle.std.proofs.Common.{◌≡◌, ℕ, zero, suc, ◌+◌, ◌<◌, List, [], ◌∷◌, ◌++◌, map, length, set, get_or, take, sym, refl, ap, ◌∙◌, subst, arith, Some, slice_get, add-one}
use Rattle.turn_gate.specs.Seats.{GateId, SeatState}
use Rattle.venue_core.specs.Joining.{after_split, split_off}
use Rattle.venue_core.proofs.AtSymbol.{seat_within}
use Rattle.venue_core.proofs.Places.{get_read, get_map}

-- the first n seats are split
abbrev pub first_split : ℕ → List SeatState → List SeatState
first_split n [] = []
first_split zero (seat ∷ seats) = seat ∷ seats
first_split (suc n) (seat ∷ seats) = after_split seat ∷ first_split n seats

pub none_split : (seats : List SeatState) → seats ≡ first_split 0 seats
none_split [] = refl
none_split (seat ∷ seats) = refl

pub length_split : (n : ℕ) (seats : List SeatState) → length (first_split n seats) ≡ length seats
length_split n [] = refl
length_split zero (seat ∷ seats) = refl
length_split (suc n) (seat ∷ seats) = ap suc (length_split n seats)

-- the next one was not split yet
pub next_split : (n : ℕ) (seats : List SeatState) (p : SeatState) → slice_get (first_split n seats) n ≡ Some p → slice_get seats n ≡ Some p
next_split n [] p at = at
next_split zero (seat ∷ seats) p at = at
next_split (suc n) (seat ∷ seats) p at = next_split n seats p at

more_split : (n : ℕ) (seats : List SeatState) (p : SeatState) → slice_get seats n ≡ Some p → set (first_split n seats) n (after_split p) ≡ first_split (suc n) seats
more_split n [] p at = absurd (cc)
more_split zero (seat ∷ seats) p at = let e : seat ≡ p = (cc) in λ k. after_split (sym e k) ∷ none_split seats k
more_split (suc n) (seat ∷ seats) p at = ap (λ (zs : List SeatState). after_split seat ∷ zs) (more_split n seats p at)

more_taken : (n : ℕ) (seats : List SeatState) (p : SeatState) → slice_get seats n ≡ Some p → map split_off (take (suc n) seats) ≡ map split_off (take n seats) ++ split_off p ∷ []
more_taken n [] p at = absurd (cc)
more_taken zero (seat ∷ seats) p at = let e : seat ≡ p = (cc) in λ k. split_off (e k) ∷ []
more_taken (suc n) (seat ∷ seats) p at = ap (λ (zs : List SeatState). split_off seat ∷ zs) (more_taken n seats p at)

pub splits_next : (n : ℕ) (seats : List SeatState) (p : SeatState) → slice_get seats n ≡ Some p → set (first_split n seats) n (after_split p) ≡ first_split (n + 1) seats
splits_next n seats p at = more_split n seats p at ∙ ap (λ (m : ℕ). first_split m seats) (sym (add-one n))

pub takes_next : (n : ℕ) (seats : List SeatState) (p : SeatState) → slice_get seats n ≡ Some p → map split_off (take n seats) ++ split_off p ∷ [] ≡ map split_off (take (n + 1) seats)
takes_next n seats p at = sym (more_taken n seats p at) ∙ ap (λ (m : ℕ). map split_off (take m seats)) (sym (add-one n))

pub all_split : (seats : List SeatState) (n : ℕ) → n ≡ length seats → first_split n seats ≡ map after_split seats
all_split [] n is = refl
all_split (seat ∷ seats) n is = subst (λ (m : ℕ). first_split m (seat ∷ seats) ≡ map after_split (seat ∷ seats)) (sym is) (ap (λ (zs : List SeatState). after_split seat ∷ zs) (all_split seats (length seats) refl))

-- the seat that is found at n is the n-th of the seats, and of the n-th gate
pub found : (n : ℕ) (gates : List GateId) (seats now : List SeatState) (p : SeatState) (gate : GateId)
    → map (λ seat. seat.gate) seats ≡ gates → now ≡ first_split n seats → n < length gates → p ≡ get_or now n p → gate ≡ get_or gates n gate
    → (slice_get seats n ≡ Some p) × (p.gate ≡ gate)
found n gates seats now p gate are is lt at gate_at =
    let in_seats = seat_within gates seats n are lt in
    let same = length_split n seats in
    let read = get_read (first_split n seats) n p (omega arith) (at ∙ ap (λ (ps : List SeatState). get_or ps n p) is) in
    let there = next_split n seats p read in
    let read_gate = get_read gates n gate lt gate_at in
    let its = ap (λ (gs : List GateId). slice_get gs n) (sym are) ∙ get_map (λ (seat : SeatState). seat.gate) seats n p there in
    (there, (cc))
