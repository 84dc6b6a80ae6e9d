use Rattle.std.proofs.Common.{◌≡◌, ◌+◌, length, map, take}
use Rattle.peg_groups.specs.BestValue.{highest_of}
use Rattle.peg_groups.proofs.BestValues.{group_best}
use Rattle.peg_groups.proofs.looking.best_of_groups.Given as goal

-- the greatest value of the groups so far
abbrev pub invariant-loop-i : goal.invariant-loop-i
invariant-loop-i g l = record {
  best : l.best ≡ highest_of (take l.i (map group_best l.groups.entries));
  ends : l.i-end ≡ length l.groups.entries;
  ticks : l.steps ≡ l.initial.steps + l.i;
}
