use Rattle.std.proofs.Common.{◌≡◌, ◌≤◌, ◌-◌, ◌++◌, take, length, All}
use Rattle.day_journal.specs.Log.{IsShortLine}
use Rattle.live_edge.proofs.file_edge.Script.take.Given as goal

abbrev pub invariant-loop-at : goal.invariant-loop-at
invariant-loop-at l = record {
  within : l.at ≤ length l.self-inside.lines.items;
  after : l.self-inside.next ≤ l.at;
  taken : take l.at l.self-inside.lines.items ≡ take l.self-inside.next l.self-inside.lines.items ++ l.lines.items;
  short : All IsShortLine l.lines.items;
}

abbrev pub decreases-loop-at : goal.decreases-loop-at
decreases-loop-at l = length l.self-inside.lines.items - l.at
