use Rattle.std.proofs.Common.{All}
use Rattle.day_journal.specs.Log.{IsShortLine}
use Rattle.live_trials.proofs.tests.lines_of.Given as goal

abbrev pub invariant-loop-line : goal.invariant-loop-line
invariant-loop-line l = All IsShortLine l.lines.items
