-- Seats of a venue that are handed to tasks and come back.
use Rattle.std.specs.Prelude.{ℕ, List}
use Rattle.turn_gate.specs.Seats.{SeatState}
use Rattle.venue_core.specs.Joining.{HaveParts}
use Rattle.venue_core.specs.Venues.{VenueId, AreSeatsOf}

-- seats of the venue, each with so many parts of its gate
pub record HasSeats (venue : VenueId) (parts : ℕ) (seats : List SeatState) : Type 0 where
  pub are : AreSeatsOf venue seats
  pub have : HaveParts parts seats
