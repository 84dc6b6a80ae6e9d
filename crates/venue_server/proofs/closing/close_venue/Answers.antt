-- The books' limits are those of the gates.
use Rattle.venue_server.proofs.Closed.{limits_of}
use Rattle.venue_server.proofs.closing.close_venue.Goals as goal

pub returns-in-Ok-clause-limits : goal.returns-in-Ok-clause-limits
returns-in-Ok-clause-limits c = limits_of c.args.venue c.args.seats c.in-Ok.books.items c.requires.are c.in-Ok.ensures.books
