use Rattle.peg_groups.proofs.FlatRows.{by_entry_places}
use Rattle.peg_groups.proofs.flat_side.FlatSideSideBook.reserve.Goals as goal

pub returns-in-Err-clause-by_entry : goal.returns-in-Err-clause-by_entry
returns-in-Err-clause-by_entry c = rw (← c.self.view_is) (by_entry_places c.self.inside.places.items c.self.invariant.0.places)

pub returns-in-Ok-clause-by_entry : goal.returns-in-Ok-clause-by_entry
returns-in-Ok-clause-by_entry c = rw (← c.self.view_is) (by_entry_places c.self.inside.places.items c.self.invariant.0.places)

pub returns-else-is_some-clause-by_entry : goal.returns-else-is_some-clause-by_entry
returns-else-is_some-clause-by_entry c = rw (← c.self.view_is) (by_entry_places c.self.inside.places.items c.self.invariant.0.places)
