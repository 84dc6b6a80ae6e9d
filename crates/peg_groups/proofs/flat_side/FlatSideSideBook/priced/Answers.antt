use Rattle.peg_groups.proofs.FlatSides.{priced_outcome}
use Rattle.peg_groups.proofs.flat_side.FlatSideSideBook.priced.Goals as goal

pub returns-clause-found : goal.returns-clause-found
returns-clause-found g c = rw (← c.self.view_is) (priced_outcome c.self.inside.places.items c.args.key c.args.cap c.args.entry c.price_of_row.result c.self.invariant.0.places (rw c.as_slice.ensures.value at c.price_of_row.ensures.found))
