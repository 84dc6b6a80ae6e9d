use Rattle.std.proofs.Common.{◌≡◌, ◌+◌, ◌*◌, ◌≤◌, length}
use Rattle.peg_groups.specs.Groups.{BestUpTo}
use Rattle.peg_groups.proofs.first.best_in.Given as goal

-- the best row of the groups so far
abbrev pub invariant-loop-i : goal.invariant-loop-i
invariant-loop-i g l = record {
  best : BestUpTo l.groups.entries l.i l.best;
  ends : l.i-end ≡ length l.groups.entries;
  ticks : l.initial.steps ≤ l.steps;
  most : l.steps ≤ l.initial.steps + 897 * l.i;
}
