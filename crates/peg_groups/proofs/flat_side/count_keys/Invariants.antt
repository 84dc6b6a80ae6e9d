use Rattle.std.proofs.Common.{◌≡◌, ◌+◌, ◌≤◌, length, drop}
use Rattle.peg_groups.specs.Flat.{rows_in}
use Rattle.peg_groups.specs.KeyCount.{key_count}
use Rattle.peg_groups.proofs.flat_side.count_keys.Given as goal

abbrev pub invariant-loop-i : goal.invariant-loop-i
invariant-loop-i l = record {
  within : l.i ≤ length l.places;
  count_is : l.count ≡ key_count (rows_in (drop l.i l.places));
  few : l.count + l.i ≤ length l.places;
}

abbrev pub decreases-loop-i : goal.decreases-loop-i
decreases-loop-i l = l.i
