-- Seats that are split off, come back and are joined.
use Rattle.std.proofs.Common.{◌≡◌, ◌<◌, ◌+◌, ◌-◌, get_or, ℕ, zero, suc, List, [], ◌∷◌, ◌++◌, length, map, slice_get, Some, Result, Ok, Err, IfOk, refl, sym, ◌∙◌, ap, arith, append-nil, length-append, add-one}
use Rattle.std.specs.List.{All, range_with_len}
use Rattle.std.proofs.Math.Nat.{add-zero}
use Rattle.std.proofs.lemmas.List.Elements.{All-nil, All-cons, All-head, All-tail}
use Rattle.std.proofs.lemmas.Option.{get_or_from_slice_get}
use Rattle.venue_words.specs.Floors.{FloorMark}
use Rattle.turn_gate.specs.Seats.{SeatState}
use Rattle.venue_core.specs.Joining.{HaveParts, IsFirstSeat, after_split, split_off}
use Rattle.turn_gate.specs.Rule.{whole}
use Rattle.venue_core.specs.Marks.{mark_of}
use Rattle.venue_core.specs.SeatLaws.{gates_after_split, gates_split_off, parts_after_split, parts_split_off, same_mark_gates, same_mark_parts}
use Rattle.venue_core.specs.Venues.{VenueId, AreSeatsOf}
use Rattle.venue_server.specs.Seating.{HasSeats}

-- seats with the same mark are as they were
pub marked_stay : (venue other : VenueId) (before after : List SeatState) → mark_of other after ≡ mark_of venue before
    → HasSeats venue 1 before → HasSeats venue 1 after
marked_stay venue other before after same has =
    let seats = ap (λ (m : FloorMark). m.seats) same in
    let mark : mark_of venue after ≡ mark_of venue before = ap (λ (s : _). record { setup = (mark_of venue before).setup; seats = s }) seats in
    record {
      are = same_mark_gates venue venue after before mark has.are;
      have = same_mark_parts venue venue 1 after before mark has.have;
    }

-- there is a part to split off
pub can_split : (parts : ℕ) (seats : List SeatState) → 1 < parts → HaveParts parts seats → All (λ seat. 1 < seat.part) seats
can_split parts [] more has = All-nil (λ (seat : SeatState). 1 < seat.part)
can_split parts (s ∷ seats) more has =
    let one : s.part ≡ parts = All-head (λ (seat : SeatState). seat.part ≡ parts) s seats has in
    All-cons (λ (seat : SeatState). 1 < seat.part) s seats (omega arith)
    (can_split parts seats more (All-tail (λ (seat : SeatState). seat.part ≡ parts) s seats has))

pub left_seats : (venue : VenueId) (parts : ℕ) (seats : List SeatState) → HasSeats venue parts seats
    → HasSeats venue (parts - 1) (map after_split seats)
left_seats venue parts seats has = record {
  are = gates_after_split seats ∙ has.are;
  have = parts_after_split parts seats has.have;
}

pub new_seats : (venue : VenueId) (seats : List SeatState) → AreSeatsOf venue seats → HasSeats venue 1 (map split_off seats)
new_seats venue seats are = record { are = gates_split_off seats ∙ are; have = parts_split_off seats }

-- the first seats have all parts
pub first_parts : (seats : List SeatState) → All IsFirstSeat seats → HaveParts whole seats
first_parts [] first = All-nil (λ (seat : SeatState). seat.part ≡ whole)
first_parts (s ∷ seats) first =
    All-cons (λ (seat : SeatState). seat.part ≡ whole) s seats (All-head IsFirstSeat s seats first).part
    (first_parts seats (All-tail IsFirstSeat s seats first))

pub first_seats : {E : Type 0} (made : Result (VenueId × List SeatState) E) → IfOk made (λ made. AreSeatsOf made.0 made.1)
    → IfOk made (λ made. All IsFirstSeat made.1) → IfOk made (λ made. HasSeats made.0 whole made.1)
first_seats (Ok made) are first = record { are = are; have = first_parts made.1 first }
first_seats (Err fault) are first = tt

-- nothing is left of a list
pub all_of : {A : Type 0} (all done rest : List A) → all ≡ done ++ rest → length rest ≡ 0 → all ≡ done
all_of all done [] is none = is ∙ append-nil done
all_of all done (x ∷ rest) is none = absurd (omega (arith, none))

-- a list with one more
pub length_push : {A : Type 0} (xs ys : List A) (x : A) → ys ≡ xs ++ x ∷ [] → length ys ≡ length xs + 1
length_push xs ys x is = omega (arith, ap length is, length-append xs (x ∷ []))

-- ---- numbers

range_more : (a n : ℕ) → range_with_len a (suc n) ≡ range_with_len a n ++ (a + n) ∷ []
range_more a zero = ap (λ (k : ℕ). k ∷ []) (sym (add-zero a))
range_more a (suc n) =
    let e : (a + 1) + n ≡ a + suc n = omega arith in
    ap (λ (xs : List ℕ). a ∷ xs) (range_more (a + 1) n ∙ ap (λ (k : ℕ). range_with_len (a + 1) n ++ k ∷ []) e)

-- one more with the next number
pub numbered_next : (numbers : List ℕ) (n k : ℕ) → numbers ≡ range_with_len 0 n → k ≡ n → numbers ++ k ∷ [] ≡ range_with_len 0 (n + 1)
numbered_next numbers n k are is =
    let e : 0 + n ≡ k = omega arith in
    ap (λ (xs : List ℕ). xs ++ k ∷ []) are ∙ ap (λ (j : ℕ). range_with_len 0 n ++ j ∷ []) (sym e) ∙ sym (range_more 0 n)
    ∙ ap (range_with_len 0) (sym (add-one n))

-- ---- tasks

pub within : {A : Type 0} (xs : List A) (k : ℕ) (x : A) → slice_get xs k ≡ Some x → k < length xs
within [] k x at = absurd (cc)
within (y ∷ xs) zero x at = omega arith
within (y ∷ xs) (suc k) x at = omega (arith, within xs k x at)

module _ {A B : Type 0} (venue_of : A → VenueId) (other_of : B → VenueId) (before : A → List SeatState) (after : B → List SeatState) where
  -- what came of tasks, place by place, has the seats' marks
  all_stay : (venue : VenueId) (jobs : List A) (others : List B)
      → All (λ job. (venue_of job ≡ venue) × HasSeats venue 1 (before job)) jobs → length others ≡ length jobs
      → ((k : ℕ) (job : A) (one : B) → slice_get jobs k ≡ Some job → slice_get others k ≡ Some one
      → mark_of (other_of one) (after one) ≡ mark_of (venue_of job) (before job))
      → All (λ one. HasSeats venue 1 (after one)) others
  all_stay venue [] [] all same each = All-nil (λ (one : B). HasSeats venue 1 (after one))
  all_stay venue [] (o ∷ others) all same each = absurd (omega (arith, same))
  all_stay venue (j ∷ jobs) [] all same each = absurd (omega (arith, same))
  all_stay venue (j ∷ jobs) (o ∷ others) all same each =
      let Was = λ (job : A). (venue_of job ≡ venue) × HasSeats venue 1 (before job) in
      let was = All-head Was j jobs all in
      All-cons (λ (one : B). HasSeats venue 1 (after one)) o others
      (marked_stay venue (other_of o) (before j) (after o)
      (each 0 j o refl refl ∙ ap (λ (v : VenueId). mark_of v (before j)) was.0) was.1)
      (all_stay venue jobs others (All-tail Was j jobs all) (omega (arith, same)) (λ k job one p q. each (suc k) job one p q))

  pub tasks_stay : (venue : VenueId) (jobs : List A) (others : List B)
      → All (λ job. (venue_of job ≡ venue) × HasSeats venue 1 (before job)) jobs → length others ≡ length jobs
      → ((k : ℕ) (job : A) (one : B) → k < length jobs → job ≡ get_or jobs k job → one ≡ get_or others k one
      → mark_of (other_of one) (after one) ≡ mark_of (venue_of job) (before job))
      → All (λ one. HasSeats venue 1 (after one)) others
  tasks_stay venue jobs others all same each =
      all_stay venue jobs others all same
      (λ k job one p q.
      each k job one (within jobs k job p)
      (sym (get_or_from_slice_get jobs k job job p)) (sym (get_or_from_slice_get others k one one q)))
