-- What a closed venue hands back.
use Rattle.std.specs.Prelude.{◌≡◌, ℕ, List, length}
use Rattle.std.specs.List.{range_with_len}
use Rattle.turn_gate.specs.Seats.{SeatState}
use Rattle.venue_words.specs.Journals.{StartsWith}
use Rattle.venue_words.specs.declared.command.Event.{Event}

-- the book of the seat's gate: its journal begins with all that the seat has seen, and the seat's own numbers are all
-- numbers of its events
pub record IsBookOf
    {V : Type 0} (journal_of : V → List Event) (limit_of setting_of : V → ℕ)
    (seat : SeatState) (book : V) : Type 0 where
  pub limit : limit_of book ≡ seat.gate.limit
  pub setting : setting_of book ≡ seat.gate.setting
  pub seen : StartsWith (journal_of book) seat.seen
  pub mine : seat.mine ≡ range_with_len 1 (length (journal_of book))
