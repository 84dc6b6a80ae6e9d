use Rattle.std.proofs.Common.{arith}
use Rattle.std.specs.Prelude.{option_to_list}
use Rattle.eager_meaning.specs.Showing.{row_of_order}
use Rattle.eager_meaning.specs.State.{resting}
use Rattle.eager_meaning.specs.Step.{runs}
use Rattle.audit_summary.proofs.Lists.{gathered}
use Rattle.audit_summary.proofs.sums.rows_counted.Goals as goal

pub loop-number-preserved : goal.loop-number-preserved
loop-number-preserved g c = record {
  rows = gathered
      (λ number. option_to_list (row_of_order number (resting (runs c.args.book.now.markets c.args.book.now.tick c.args.book.now.journal).state)))
      c.loop-number.number c.loop-number.rows.items c.add_row.new.rows.items c.loop-number.invariant.rows c.in_ok-add_row.ensures.rows;
  few = omega (arith, c.in_ok-add_row.ensures.few, c.loop-number.invariant.few);
}
