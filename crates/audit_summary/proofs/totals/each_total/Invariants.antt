-- The pairs so far were counted.
use Rattle.std.proofs.Common.{◌≡◌, ◌≤◌, ◌<◌, ◌*◌, ℕ, take, get_or, length, Some}
use Rattle.audit_summary.specs.Counting.{total}
use Rattle.audit_summary.proofs.totals.each_total.Given as goal

abbrev pub invariant-loop-pair : goal.invariant-loop-pair
invariant-loop-pair l = record {
  many : length l.each.items ≡ l.many;
  each : (who : ℕ) → who < l.many → get_or l.each.items who 0 ≡ total (Some who) (take l.pair-index l.pairs);
  small : (who : ℕ) → who < l.many → get_or l.each.items who 0 ≤ l.pair-index * 4294967295;
}
