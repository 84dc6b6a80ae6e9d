-- The orders so far have their rows.
use Rattle.std.proofs.Common.{◌≡◌, ◌≤◌, length}
use Rattle.eager_meaning.specs.Step.{runs}
use Rattle.audit_summary.specs.Columns.{rows_to}
use Rattle.audit_summary.proofs.sums.rows_counted.Given as goal

abbrev pub invariant-loop-number : goal.invariant-loop-number
invariant-loop-number g l = record {
  rows : l.rows.items ≡ rows_to l.number (runs l.book.markets l.book.tick l.book.journal).state;
  few : length l.rows.items ≤ l.number;
}
