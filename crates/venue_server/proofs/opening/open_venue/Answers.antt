-- The first seats have all parts.
use Rattle.venue_server.proofs.Seats.{first_seats}
use Rattle.venue_server.proofs.opening.open_venue.Goals as goal

pub returns-clause-seats : goal.returns-clause-seats
returns-clause-seats c = first_seats c.make.result c.make.ensures.seats c.make.ensures.first
