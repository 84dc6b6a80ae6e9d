-- The pairs so far were counted.
use Rattle.std.proofs.Common.{◌≡◌, ◌≤◌, ◌*◌, take, None}
use Rattle.audit_summary.specs.Counting.{total}
use Rattle.audit_summary.proofs.totals.all_total.Given as goal

abbrev pub invariant-loop-pair : goal.invariant-loop-pair
invariant-loop-pair l = record {
  all : l.all ≡ total None (take l.pair-index l.pairs);
  small : l.all ≤ l.pair-index * 4294967295;
}
