-- Idle seats that are split.
use Rattle.std.proofs.Common.{◌<◌, ℕ, ◌-◌, List, [], ◌∷◌, map, refl, ap, ◌∙◌, arith}
use Rattle.std.specs.List.{All}
use Rattle.std.proofs.lemmas.List.Elements.{All-nil, All-cons, All-head, All-tail}
use Rattle.turn_gate.specs.Seats.{SeatState}
use Rattle.venue_core.specs.Joining.{after_split, split_off}
use Rattle.venue_core.specs.SeatLaws.{gates_after_split, gates_split_off}
use Rattle.venue_core.specs.Venues.{VenueId}
use Rattle.feeds_core.specs.Joined.{IsIdle, AreIdleSeats}

after_idle : (parts : ℕ) (seats : List SeatState) → All (IsIdle parts) seats → All (IsIdle (parts - 1)) (map after_split seats)
after_idle parts [] all = All-nil (IsIdle (parts - 1))
after_idle parts (seat ∷ seats) all =
    let is = All-head (IsIdle parts) seat seats all in
    All-cons (IsIdle (parts - 1)) (after_split seat) (map after_split seats)
    (record { seen = is.seen; mine = is.mine; part = ap (λ (n : ℕ). n - 1) is.part })
    (after_idle parts seats (All-tail (IsIdle parts) seat seats all))

new_idle : (parts : ℕ) (seats : List SeatState) → All (IsIdle parts) seats → All (IsIdle 1) (map split_off seats)
new_idle parts [] all = All-nil (IsIdle 1)
new_idle parts (seat ∷ seats) all =
    let is = All-head (IsIdle parts) seat seats all in
    All-cons (IsIdle 1) (split_off seat) (map split_off seats) (record { seen = is.seen; mine = refl; part = refl })
    (new_idle parts seats (All-tail (IsIdle parts) seat seats all))

pub after_seats : (venue : VenueId) (parts : ℕ) (seats : List SeatState) → AreIdleSeats venue parts seats
    → AreIdleSeats venue (parts - 1) (map after_split seats)
after_seats venue parts seats is =
    record { are = gates_after_split seats ∙ is.are; idle = after_idle parts seats is.idle }

pub new_seats : (venue : VenueId) (parts : ℕ) (seats : List SeatState) → AreIdleSeats venue parts seats
    → AreIdleSeats venue 1 (map split_off seats)
new_seats venue parts seats is = record { are = gates_split_off seats ∙ is.are; idle = new_idle parts seats is.idle }

-- such seats have parts that can be split
pub can_split : (parts : ℕ) (seats : List SeatState) → 1 < parts → All (IsIdle parts) seats → All (λ seat. 1 < seat.part) seats
can_split parts [] some all = All-nil (λ (seat : SeatState). 1 < seat.part)
can_split parts (seat ∷ seats) some all =
    let is = All-head (IsIdle parts) seat seats all in
    All-cons (λ (s : SeatState). 1 < s.part) seat seats (omega (arith, is.part, some))
    (can_split parts seats some (All-tail (IsIdle parts) seat seats all))
