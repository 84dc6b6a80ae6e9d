-- One seat after another is joined.
use Rattle.std.proofs.Common.{◌≡◌, ℕ, suc, ◌<◌, ◌+◌, List, [], ◌∷◌, ◌++◌, map, length, set, get_or, sym, refl, ap, ◌∙◌, subst, arith, Some, slice_get, length-append}
use Rattle.std.specs.List.{All, AllZip}
use Rattle.std.proofs.lemmas.List.{length-map}
use Rattle.std.proofs.lemmas.List.Elements.{All-nil, All-cons}
use Rattle.turn_gate.specs.Seats.{GateId, SeatState}
use Rattle.venue_core.specs.Joining.{HasSeenNoLess, HasOwnNumbers, after_join, all_joined}
use Rattle.venue_core.proofs.Places.{get_read, get_map}

-- a seat with another one joined into it
pub record IsJoined (seat other joined : SeatState) : Type 0 where
  pub is : joined ≡ after_join seat other
  pub seen : HasSeenNoLess seat joined
  pub other_seen : HasSeenNoLess other joined
  pub mine : HasOwnNumbers joined

-- the others are joined into the first seats, and the rest stay
abbrev pub AreJoined : List SeatState → List SeatState → List SeatState → Type 0
AreJoined seats [] now = now ≡ seats
AreJoined [] (other ∷ others) now = ⊥
AreJoined (seat ∷ seats) (other ∷ others) [] = ⊥
AreJoined (seat ∷ seats) (other ∷ others) (joined ∷ now) = IsJoined seat other joined × AreJoined seats others now

pub joined_length : (seats others now : List SeatState) → AreJoined seats others now → length now ≡ length seats
joined_length seats [] now j = ap length j
joined_length [] (other ∷ others) now j = absurd j
joined_length (seat ∷ seats) (other ∷ others) [] j = absurd j
joined_length (seat ∷ seats) (other ∷ others) (joined ∷ now) j = ap suc (joined_length seats others now j.1)

pub next_joined : (seats others now : List SeatState) (p : SeatState) → AreJoined seats others now → slice_get now (length others) ≡ Some p → slice_get seats (length others) ≡ Some p
next_joined seats [] now p j at = ap (λ (ps : List SeatState). slice_get ps 0) (sym j) ∙ at
next_joined [] (other ∷ others) now p j at = absurd j
next_joined (seat ∷ seats) (other ∷ others) [] p j at = absurd j
next_joined (seat ∷ seats) (other ∷ others) (joined ∷ now) p j at = next_joined seats others now p j.1 at

pub more_joined : (seats others now : List SeatState) (p other joined : SeatState) → AreJoined seats others now → slice_get now (length others) ≡ Some p → IsJoined p other joined
    → AreJoined seats (others ++ other ∷ []) (set now (length others) joined)
more_joined [] [] [] p other joined j at is = absurd (cc)
more_joined [] [] (q ∷ qs) p other joined j at is = absurd (cc)
more_joined (seat ∷ seats) [] [] p other joined j at is = absurd (cc)
more_joined (seat ∷ seats) [] (q ∷ qs) p other joined j at is =
    let e : p ≡ seat = (cc) in let rest : qs ≡ seats = (cc) in (subst (λ (s : SeatState). IsJoined s other joined) e is, rest)
more_joined [] (o ∷ others) now p other joined j at is = absurd j
more_joined (seat ∷ seats) (o ∷ others) [] p other joined j at is = absurd j
more_joined (seat ∷ seats) (o ∷ others) (q ∷ qs) p other joined j at is = (j.0, more_joined seats others qs p other joined j.1 at is)

pub are_all_joined : (seats others now : List SeatState) → AreJoined seats others now → now ≡ all_joined seats others
are_all_joined [] [] now j = j
are_all_joined (seat ∷ seats) [] now j = j
are_all_joined [] (other ∷ others) now j = absurd j
are_all_joined (seat ∷ seats) (other ∷ others) [] j = absurd j
are_all_joined (seat ∷ seats) (other ∷ others) (joined ∷ now) j = λ k. j.0.is k ∷ are_all_joined seats others now j.1 k

pub begin_with : (seats others now : List SeatState) → AreJoined seats others now → length seats ≡ length others → AllZip HasSeenNoLess seats now
begin_with [] [] now j same = subst (λ (ps : List SeatState). AllZip HasSeenNoLess [] ps) (sym j) tt
begin_with (seat ∷ seats) [] now j same = absurd (omega arith)
begin_with [] (other ∷ others) now j same = absurd j
begin_with (seat ∷ seats) (other ∷ others) [] j same = absurd j
begin_with (seat ∷ seats) (other ∷ others) (joined ∷ now) j same = (j.0.seen, begin_with seats others now j.1 (omega arith))

pub begin_with_others : (seats others now : List SeatState) → AreJoined seats others now → length seats ≡ length others → AllZip HasSeenNoLess others now
begin_with_others [] [] now j same = subst (λ (ps : List SeatState). AllZip HasSeenNoLess [] ps) (sym j) tt
begin_with_others (seat ∷ seats) [] now j same = absurd (omega arith)
begin_with_others [] (other ∷ others) now j same = absurd j
begin_with_others (seat ∷ seats) (other ∷ others) [] j same = absurd j
begin_with_others (seat ∷ seats) (other ∷ others) (joined ∷ now) j same = (j.0.other_seen, begin_with_others seats others now j.1 (omega arith))

pub own_numbers : (seats others now : List SeatState) → AreJoined seats others now → length seats ≡ length others → All HasOwnNumbers now
own_numbers [] [] now j same = subst (All HasOwnNumbers) (sym j) (All-nil HasOwnNumbers)
own_numbers (seat ∷ seats) [] now j same = absurd (omega arith)
own_numbers [] (other ∷ others) now j same = absurd j
own_numbers (seat ∷ seats) (other ∷ others) [] j same = absurd j
own_numbers (seat ∷ seats) (other ∷ others) (joined ∷ now) j same = All-cons HasOwnNumbers joined now j.0.mine (own_numbers seats others now j.1 (omega arith))

-- where others up to i are joined, the i-th is next
pub record IsNext (seats others done rest now : List SeatState) (gates : List GateId) (i : ℕ) (other : SeatState) : Type 0 where
  pub are : map (λ seat. seat.gate) seats ≡ gates
  pub other_are : map (λ seat. seat.gate) others ≡ gates
  pub joined : AreJoined seats done now
  pub split : others ≡ done ++ (other ∷ rest)
  pub place : i ≡ length done

pub next_within : (seats others done rest now : List SeatState) (gates : List GateId) (i : ℕ) (other : SeatState) → IsNext seats others done rest now gates i other → (i < length now) × (i < length gates)
next_within seats others done rest now gates i other n =
    let a : length (map (λ (seat : SeatState). seat.gate) seats) ≡ length gates = ap length n.are in
    let b : length (map (λ (seat : SeatState). seat.gate) others) ≡ length gates = ap length n.other_are in
    let c = length-map seats (λ (seat : SeatState). seat.gate) in
    let d = length-map others (λ (seat : SeatState). seat.gate) in
    let e : length others ≡ length done + length (other ∷ rest) = ap length n.split ∙ length-append done (other ∷ rest) in
    let f = joined_length seats done now n.joined in
    let g = n.place in (omega arith, omega arith)

get_middle : (ys more : List SeatState) (q : SeatState) → slice_get (ys ++ (q ∷ more)) (length ys) ≡ Some q
get_middle [] more q = refl
get_middle (y ∷ ys) more q = get_middle ys more q

pub gates_there : (seats others done rest now : List SeatState) (gates : List GateId) (i : ℕ) (other p : SeatState) (g : GateId)
    → IsNext seats others done rest now gates i other → p ≡ get_or now i p → g ≡ get_or gates i g → (p.gate ≡ g) × (other.gate ≡ g)
gates_there seats others done rest now gates i other p g n at at' =
    let w = next_within seats others done rest now gates i other n in
    let read = get_read now i p w.0 at in
    let here : slice_get seats (length done) ≡ Some p = next_joined seats done now p n.joined (ap (slice_get now) (sym n.place) ∙ read) in
    let gate_here : slice_get gates (length done) ≡ Some p.gate = ap (λ (gs : List GateId). slice_get gs (length done)) (sym n.are) ∙ get_map (λ (seat : SeatState). seat.gate) seats (length done) p here in
    let there : slice_get others (length done) ≡ Some other = ap (λ (ps : List SeatState). slice_get ps (length done)) n.split ∙ get_middle done rest other in
    let gate_there : slice_get gates (length done) ≡ Some other.gate = ap (λ (gs : List GateId). slice_get gs (length done)) (sym n.other_are) ∙ get_map (λ (seat : SeatState). seat.gate) others (length done) other there in
    let gate_read : slice_get gates (length done) ≡ Some g = ap (slice_get gates) (sym n.place) ∙ get_read gates i g w.1 at' in
    ((cc), (cc))

pub joins_next : (seats others done rest now : List SeatState) (gates : List GateId) (i : ℕ) (other p joined : SeatState)
    → IsNext seats others done rest now gates i other → p ≡ get_or now i p → IsJoined p other joined → AreJoined seats (done ++ other ∷ []) (set now i joined)
joins_next seats others done rest now gates i other p joined n at is =
    let w = next_within seats others done rest now gates i other n in
    subst (λ (k : ℕ). AreJoined seats (done ++ other ∷ []) (set now k joined)) (sym n.place)
    (more_joined seats done now p other joined n.joined (ap (slice_get now) (sym n.place) ∙ get_read now i p w.0 at) is)

pub none_left : (ys more : List SeatState) → length more ≡ 0 → ys ++ more ≡ ys
none_left [] [] e = refl
none_left [] (m ∷ ms) e = absurd (omega arith)
none_left (y ∷ ys) more e = ap (λ (zs : List SeatState). y ∷ zs) (none_left ys more e)
