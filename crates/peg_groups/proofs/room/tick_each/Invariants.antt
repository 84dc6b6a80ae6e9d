use Rattle.std.proofs.Common.{◌≡◌, ◌+◌}
use Rattle.peg_groups.proofs.room.tick_each.Given as goal

abbrev pub invariant-loop-i : goal.invariant-loop-i
invariant-loop-i g l = l.steps ≡ l.initial.steps + l.i
