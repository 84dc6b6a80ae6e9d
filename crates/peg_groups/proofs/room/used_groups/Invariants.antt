use Rattle.std.proofs.Common.{◌≡◌, ◌≤◌, length, filter, take}
use Rattle.peg_groups.specs.Groups.{has_rows}
use Rattle.peg_groups.proofs.room.used_groups.Given as goal

abbrev pub invariant-loop-i : goal.invariant-loop-i
invariant-loop-i l = (l.count ≡ length (filter has_rows (take l.i l.groups.entries))) × (l.count ≤ l.i)
