use Rattle.std.proofs.Common.{rules}
use Rattle.limit_tree.proofs.InOrder.{alone}
use Rattle.limit_tree.proofs.node.fill.Goals as goal

pub returns-clause-alone : goal.returns-clause-alone
returns-clause-alone c = alone _ c.node.inside.row _ _ (rw (← c.node.view_is) at c.requires.alone)

pub returns-clause-row : goal.returns-clause-row
returns-clause-row c = search rules
