use Rattle.std.proofs.Common.{◌-◌, ◌≡◌, ℕ, ◌+◌, ◌<◌, ◌≤◌, length, ◌*◌, ◌^◌}
use Rattle.move_history.specs.Kept.{low_at}
use Rattle.move_history.proofs.kept.count_below.Given as goal

abbrev pub invariant-loop-start : goal.invariant-loop-start
invariant-loop-start g l = record {
  order : l.start ≤ l.end;
  within : l.end ≤ length l.kept;
  below : (i : ℕ) → i < l.start → low_at l.kept i < l.low;
  above : (i : ℕ) → l.end ≤ i → i < length l.kept → l.low ≤ low_at l.kept i;
  counted : l.fn.steps ≤ l.steps;
  some : l.steps ≡ l.fn.steps → l.start < l.end;
  most : l.steps ≤ l.fn.steps + 64;
  fits : length l.kept < 2 ^ 64;
  halved : 2 ^ (l.steps - l.fn.steps) * (l.end - l.start) ≤ length l.kept;
}

abbrev pub decreases-loop-start : goal.decreases-loop-start
decreases-loop-start g l = l.end - l.start
