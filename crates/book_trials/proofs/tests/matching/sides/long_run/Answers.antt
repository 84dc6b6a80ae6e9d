use Rattle.book_trials.proofs.Later.{later_first}
use Rattle.book_trials.proofs.tests.matching.sides.long_run.Goals as goal

pub loop-event-init : goal.loop-event-init
loop-event-init g c = rw c.requires later_first
