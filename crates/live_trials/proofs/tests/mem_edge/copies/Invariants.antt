-- The copies so far.
use Rattle.std.proofs.Common.{◌≡◌, ◌≤◌, ◌-◌, ◌++◌, take, length, All}
use Rattle.day_journal.specs.Log.{IsShortLine}
use Rattle.live_trials.proofs.tests.mem_edge.copies.Given as goal

abbrev pub invariant-loop-at : goal.invariant-loop-at
invariant-loop-at l = record {
  within : l.at ≤ l.to;
  after : l.from ≤ l.at;
  taken : take l.at l.all ≡ take l.from l.all ++ l.copies.items;
  short : All IsShortLine l.copies.items;
}

abbrev pub decreases-loop-at : goal.decreases-loop-at
decreases-loop-at l = l.to - l.at
