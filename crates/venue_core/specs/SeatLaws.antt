-- Gates and parts of seats that are split, joined and worked with.
use Rattle.std.proofs.Common.{◌≡◌, ℕ, ◌+◌, ◌-◌, ◌∷◌, List, [], map, refl, ap, ◌∙◌}
use Rattle.std.proofs.lemmas.List.Elements.{All-nil, All-cons, All-head, All-tail}
use Rattle.turn_gate.specs.Seats.{GateId, SeatState}
use Rattle.venue_words.specs.Floors.{FloorMark}
use Rattle.venue_core.specs.Joining.{HaveParts, after_split, split_off, after_join, all_joined}
use Rattle.venue_core.specs.Marks.{seat_mark, mark_of}
use Rattle.venue_core.specs.Venues.{VenueId, AreSeatsOf}

abbrev Has : ℕ → SeatState → Type 0
Has parts seat = seat.part ≡ parts

-- ---- splits

pub gates_after_split : (seats : List SeatState)
    → map (λ seat. seat.gate) (map after_split seats) ≡ map (λ seat. seat.gate) seats
gates_after_split [] = refl
gates_after_split (seat ∷ seats) = ap (λ (gates : List GateId). seat.gate ∷ gates) (gates_after_split seats)

pub gates_split_off : (seats : List SeatState)
    → map (λ seat. seat.gate) (map split_off seats) ≡ map (λ seat. seat.gate) seats
gates_split_off [] = refl
gates_split_off (seat ∷ seats) = ap (λ (gates : List GateId). seat.gate ∷ gates) (gates_split_off seats)

pub parts_after_split : (parts : ℕ) (seats : List SeatState)
    → HaveParts parts seats → HaveParts (parts - 1) (map after_split seats)
parts_after_split parts [] have = All-nil (Has (parts - 1))
parts_after_split parts (seat ∷ seats) have =
    All-cons (Has (parts - 1)) (after_split seat) (map after_split seats)
    (ap (λ (n : ℕ). n - 1) (All-head (Has parts) seat seats have))
    (parts_after_split parts seats (All-tail (Has parts) seat seats have))

pub parts_split_off : (seats : List SeatState) → HaveParts 1 (map split_off seats)
parts_split_off [] = All-nil (Has 1)
parts_split_off (seat ∷ seats) = All-cons (Has 1) (split_off seat) (map split_off seats) refl (parts_split_off seats)

-- ---- joins

pub gates_joined : (seats others : List SeatState)
    → map (λ seat. seat.gate) (all_joined seats others) ≡ map (λ seat. seat.gate) seats
gates_joined [] others = refl
gates_joined (seat ∷ seats) [] = refl
gates_joined (seat ∷ seats) (other ∷ others) =
    ap (λ (gates : List GateId). seat.gate ∷ gates) (gates_joined seats others)

pub parts_joined : (parts more : ℕ) (seats others : List SeatState)
    → map (λ seat. seat.gate) seats ≡ map (λ seat. seat.gate) others
    → HaveParts parts seats → HaveParts more others → HaveParts (parts + more) (all_joined seats others)
parts_joined parts more [] others same have have' = All-nil (Has (parts + more))
parts_joined parts more (seat ∷ seats) [] same have have' = absurd (cc)
parts_joined parts more (seat ∷ seats) (other ∷ others) same have have' =
    let rest : map (λ (seat : SeatState). seat.gate) seats ≡ map (λ (seat : SeatState). seat.gate) others = (cc) in
    let one = All-head (Has parts) seat seats have in
    let two = All-head (Has more) other others have' in
    All-cons (Has (parts + more)) (after_join seat other) (all_joined seats others) (λ k. one k + two k)
    (parts_joined parts more seats others rest (All-tail (Has parts) seat seats have)
    (All-tail (Has more) other others have'))

-- ---- marks

one_mark : (p q : SeatState) → seat_mark p ≡ seat_mark q → (p.gate ≡ q.gate) × (p.part ≡ q.part)
one_mark p q e =
    let limit : p.gate.limit ≡ q.gate.limit = (cc) in
    let setting : p.gate.setting ≡ q.gate.setting = (cc) in
    let words : p.gate.table.words ≡ q.gate.table.words = (cc) in
    let slots : p.gate.table.slots ≡ q.gate.table.slots = (cc) in
    let views : p.gate.table.views_name ≡ q.gate.table.views_name = (cc) in
    let atom : p.gate.table.atom ≡ q.gate.table.atom = (cc) in
    let block : p.gate.table.block ≡ q.gate.table.block = (cc) in
    let offset : p.gate.table.offset ≡ q.gate.table.offset = (cc) in
    let names : p.gate.table.slot_names ≡ q.gate.table.slot_names = (cc) in (
      (λ k. record {
        table = record {
          words = words k;
          slots = slots k;
          views_name = views k;
          atom = atom k;
          block = block k;
          offset = offset k;
          slot_names = names k;
        };
        limit = limit k;
        setting = setting k;
      }),
      (cc),
    )

marked_gates : (ps qs : List SeatState) → map seat_mark ps ≡ map seat_mark qs
    → map (λ seat. seat.gate) ps ≡ map (λ seat. seat.gate) qs
marked_gates [] [] e = refl
marked_gates [] (q ∷ qs) e = absurd (cc)
marked_gates (p ∷ ps) [] e = absurd (cc)
marked_gates (p ∷ ps) (q ∷ qs) e =
    let head : seat_mark p ≡ seat_mark q = (cc) in let tail : map seat_mark ps ≡ map seat_mark qs = (cc) in
    λ k. (one_mark p q head).0 k ∷ marked_gates ps qs tail k

marked_parts : (parts : ℕ) (ps qs : List SeatState) → map seat_mark ps ≡ map seat_mark qs
    → HaveParts parts qs → HaveParts parts ps
marked_parts parts [] qs e have = All-nil (Has parts)
marked_parts parts (p ∷ ps) [] e have = absurd (cc)
marked_parts parts (p ∷ ps) (q ∷ qs) e have =
    let head : seat_mark p ≡ seat_mark q = (cc) in let tail : map seat_mark ps ≡ map seat_mark qs = (cc) in
    All-cons (Has parts) p ps ((one_mark p q head).1 ∙ All-head (Has parts) q qs have)
    (marked_parts parts ps qs tail (All-tail (Has parts) q qs have))

-- seats with the mark of seats of a venue are of that venue, and have as many parts
pub same_mark_gates : (other venue : VenueId) (ps qs : List SeatState)
    → mark_of other ps ≡ mark_of venue qs → AreSeatsOf venue qs → AreSeatsOf venue ps
same_mark_gates other venue ps qs e are = marked_gates ps qs (ap (λ (mark : FloorMark). mark.seats) e) ∙ are

pub same_mark_parts : (other venue : VenueId) (parts : ℕ) (ps qs : List SeatState)
    → mark_of other ps ≡ mark_of venue qs → HaveParts parts qs → HaveParts parts ps
same_mark_parts other venue parts ps qs e = marked_parts parts ps qs (ap (λ (mark : FloorMark). mark.seats) e)
