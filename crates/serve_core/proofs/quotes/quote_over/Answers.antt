-- Before a line was read.
use Rattle.serve_core.proofs.QuotesMiddle.{no_room_named, not_begun_named}
use Rattle.serve_core.proofs.quotes.quote_over.Goals as goal

pub returns-in_default-clause-file : goal.returns-in_default-clause-file
returns-in_default-clause-file g c =
    no_room_named g.F.Floor.at (g.F.Floor.mark c.args.floor.now) c.args.config.now (g.H.Shelf.told c.args.shelf.now) c.args.name.now
    (g.H.Shelf.left c.args.shelf.now) _

pub returns-clause-file : goal.returns-clause-file
returns-clause-file g c =
    not_begun_named g.F.Floor.at (g.F.Floor.mark c.args.floor.now) c.args.config.now (g.H.Shelf.told c.args.shelf.now) c.args.name.now _ _
    c.in-Err.ensures.closed
