use Rattle.move_history.proofs.LastBelow.{last_below-keep}
use Rattle.move_history.proofs.kept.keep.Goals as goal

pub returns-clause-changes : goal.returns-clause-changes
returns-clause-changes g c = λ cap. rw (c.in-Ok.ensures.items, c.truncate.ensures.items) (last_below-keep cap c.args.kept.now.items c.args.next c.count_below-lower.result (rw c.as_slice.ensures.value at c.count_below-lower.ensures.above))
