-- The marks of floors. In a mark each symbol has a list of numbers that begins with the setting of its book.
use Rattle.std.specs.Prelude.{ℕ, List, [], ◌∷◌, map, slice_get, Option, Some, None}
use Rattle.turn_gate.specs.Seats.{SeatState}
use Rattle.venue_words.specs.Floors.{FloorMark}
use Rattle.venue_core.specs.Venues.{VenueId, setup_in, PlainState, plain_setup}

-- a seat's gate and its part, in numbers
abbrev pub seat_mark : SeatState → List ℕ
seat_mark seat =
    seat.gate.setting
    ∷ seat.part
    ∷ seat.gate.limit
    ∷ seat.gate.table.words
    ∷ seat.gate.table.slots
    ∷ seat.gate.table.views_name
    ∷ seat.gate.table.atom
    ∷ seat.gate.table.block
    ∷ seat.gate.table.offset
    ∷ seat.gate.table.slot_names

-- the mark of seats of a venue
abbrev pub mark_of : VenueId → List SeatState → FloorMark
mark_of venue seats = record { setup = setup_in venue; seats = map seat_mark seats }

-- the mark of a venue without gates
abbrev pub plain_mark : {V : Type 0} → (V → ℕ) → (V → ℕ) → PlainState V → FloorMark
plain_mark limit_of setting_of plain =
    record { setup = plain_setup limit_of plain; seats = map (λ book. setting_of book ∷ []) plain.books }

abbrev pub first_number : Option (List ℕ) → ℕ
first_number None = 0
first_number (Some []) = 0
first_number (Some (number ∷ rest)) = number

-- the setting of the symbol's book
abbrev pub setting_in : FloorMark → ℕ → ℕ
setting_in mark symbol = first_number (slice_get mark.seats symbol)
