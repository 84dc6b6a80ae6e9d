use Rattle.std.proofs.Common.{arith}
use Rattle.peg_groups.proofs.FlatRows.{by_entry_places}
use Rattle.peg_groups.proofs.FlatSteps.{rows_few}
use Rattle.peg_groups.proofs.flat_side.FlatSideSideBook.best_value.Goals as goal

pub returns-clause-by_entry : goal.returns-clause-by_entry
returns-clause-by_entry g c = rw (← c.self.view_is) (by_entry_places c.self.inside.places.items c.self.invariant.0.places)

pub returns-clause-visits : goal.returns-clause-visits
returns-clause-visits g c = rw (← c.self.view_is) (omega (arith, rows_few c.self.inside.places.items))
