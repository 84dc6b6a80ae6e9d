use Rattle.std.proofs.Common.{◌<◌}
use Rattle.book_trials.proofs.tests.matching.moves.compare_many.Given as goal

abbrev pub invariant-loop-event : goal.invariant-loop-event
invariant-loop-event g l = l.moves.latest < l.event
