use Rattle.limit_tree.proofs.Finding.{greatest_pair}
use Rattle.limit_tree.proofs.tree.LimitTree.highest_below.Goals as goal

pub returns-in-Some-clause-found : goal.returns-in-Some-clause-found
returns-in-Some-clause-found g c = rw (← c.self.view_is) (greatest_pair c.args.value _ _ _ c.in-Some.ensures.found c.first_in.ensures.found)
