-- Lists of seats, place by place.
use Rattle.std.proofs.Common.{◌≡◌, ℕ, zero, suc, ◌<◌, List, [], ◌∷◌, length, slice_get, Some, refl, sym, ap, subst, arith}
use Rattle.std.specs.List.{AllZip}
use Rattle.turn_gate.specs.Seats.{SeatState}
use Rattle.venue_core.specs.Joining.{after_join, all_joined}

pub record Held {A : Type 0} (xs : List A) (k : ℕ) : Type 0 where
  pub item : A
  pub at : slice_get xs k ≡ Some item

pub held : {A : Type 0} (xs : List A) (k : ℕ) → k < length xs → Held xs k
held [] k lt = absurd (omega (arith, lt))
held (x ∷ xs) zero lt = record { item = x; at = refl }
held (x ∷ xs) (suc k) lt = let h = held xs k (omega (arith, lt)) in record { item = h.item; at = h.at }

pub zip_length : {A B : Type 0} (R : A → B → Type 0) (xs : List A) (ys : List B) → AllZip R xs ys → length xs ≡ length ys
zip_length R [] [] all = refl
zip_length R [] (y ∷ ys) all = absurd all
zip_length R (x ∷ xs) [] all = absurd all
zip_length R (x ∷ xs) (y ∷ ys) all = ap suc (zip_length R xs ys all.1)

pub zip_at : {A B : Type 0} (R : A → B → Type 0) (xs : List A) (ys : List B) (k : ℕ) (x : A) (y : B) → AllZip R xs ys
    → slice_get xs k ≡ Some x → slice_get ys k ≡ Some y → R x y
zip_at R [] ys k x y all at at' = absurd (cc)
zip_at R (u ∷ xs) [] k x y all at at' = absurd all
zip_at R (u ∷ xs) (v ∷ ys) zero x y all at at' =
    let p : u ≡ x = (cc) in let q : v ≡ y = (cc) in subst (λ (z : _ × _). R z.0 z.1) (λ i. (p i, q i)) all.0
zip_at R (u ∷ xs) (v ∷ ys) (suc k) x y all at at' = zip_at R xs ys k x y all.1 at at'

-- a seat behind a join, with the two that were joined
pub record Joins (seats others : List SeatState) (k : ℕ) (joined : SeatState) : Type 0 where
  pub seat : SeatState
  pub other : SeatState
  pub at : slice_get seats k ≡ Some seat
  pub other_at : slice_get others k ≡ Some other
  pub is : joined ≡ after_join seat other

pub joins : (seats others : List SeatState) (k : ℕ) (joined : SeatState) → length seats ≡ length others
    → slice_get (all_joined seats others) k ≡ Some joined → Joins seats others k joined
joins [] others k joined same at = absurd (cc)
joins (seat ∷ seats) [] k joined same at = absurd (omega (arith, same))
joins (seat ∷ seats) (other ∷ others) zero joined same at =
    let is : after_join seat other ≡ joined = (cc) in
    record { seat = seat; other = other; at = refl; other_at = refl; is = sym is }
joins (seat ∷ seats) (other ∷ others) (suc k) joined same at =
    let j = joins seats others k joined (omega (arith, same)) at in
    record { seat = j.seat; other = j.other; at = j.at; other_at = j.other_at; is = j.is }

pub length_joined : (seats others : List SeatState) → length seats ≡ length others → length (all_joined seats others) ≡ length seats
length_joined [] others same = refl
length_joined (seat ∷ seats) [] same = absurd (omega (arith, same))
length_joined (seat ∷ seats) (other ∷ others) same = ap suc (length_joined seats others (omega (arith, same)))
