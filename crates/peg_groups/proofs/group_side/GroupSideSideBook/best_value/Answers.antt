use Rattle.peg_groups.proofs.GroupSteps.{by_entry_groups}
use Rattle.peg_groups.proofs.group_side.GroupSideSideBook.best_value.Goals as goal

pub returns-clause-by_entry : goal.returns-clause-by_entry
returns-clause-by_entry g c = rw (← c.self.view_is) (by_entry_groups c.self.inside.best c.self.inside.event c.self.inside.groups.entries c.self.invariant.is.groups)
