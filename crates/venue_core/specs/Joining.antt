-- How seats are split and joined.
use Rattle.std.specs.Prelude.{◌≡◌, ℕ, ◌+◌, ◌-◌, max, List, [], ◌∷◌, length}
use Rattle.std.specs.List.{All}
use Rattle.turn_gate.specs.Numbers.{IncreasesWithin, merge_of}
use Rattle.turn_gate.specs.Rule.{whole}
use Rattle.turn_gate.specs.Seats.{SeatState}
use Rattle.turn_gate.specs.Steps.{longer_of}
use Rattle.venue_words.specs.Journals.{StartsWith}

-- the one seat of a gate whose book has taken nothing
pub record IsFirstSeat (seat : SeatState) : Type 0 where
  pub seen : seat.seen ≡ []
  pub mine : seat.mine ≡ []
  pub part : seat.part ≡ whole

-- each seat has so many parts of its gate
abbrev pub HaveParts : ℕ → List SeatState → Type 0
HaveParts parts seats = All (λ seat. seat.part ≡ parts) seats

-- a seat has seen all that it had seen before, or that another one had
abbrev pub HasSeenNoLess : SeatState → SeatState → Type 0
HasSeenNoLess before after = StartsWith after.seen before.seen

-- the seat's own numbers increase, and lie within what it has seen
abbrev pub HasOwnNumbers : SeatState → Type 0
HasOwnNumbers seat = IncreasesWithin 0 (length seat.seen) seat.mine

-- a seat of which one part was split off, and the seat that has this part
abbrev pub after_split : SeatState → SeatState
after_split seat = record seat { part = seat.part - 1 }

abbrev pub split_off : SeatState → SeatState
split_off seat = record seat { turns = 0; mine = []; part = 1 }

-- a seat with another one joined into it
abbrev pub after_join : SeatState → SeatState → SeatState
after_join seat other = record seat {
  last_turn = max seat.last_turn other.last_turn;
  seen = longer_of seat.seen other.seen;
  mine = merge_of seat.mine other.mine;
  part = seat.part + other.part;
}

-- the first seats each with one of the others joined into it, and the seats for which there is no other one
abbrev pub all_joined : List SeatState → List SeatState → List SeatState
all_joined [] others = []
all_joined (seat ∷ seats) [] = seat ∷ seats
all_joined (seat ∷ seats) (other ∷ others) = after_join seat other ∷ all_joined seats others
