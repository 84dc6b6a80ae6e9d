use Rattle.audit_html.proofs.Boxing.{added_none}
use Rattle.audit_core.specs.Audited.{run_of}
use Rattle.audit_report.specs.declared.parts.Part.TheVariants.{Orders}
use Rattle.audit_report.specs.Orders.{row_at}
use Rattle.audit_report.specs.Parts.{box}
use Rattle.audit_report.proofs.Collecting.{number_added}
use Rattle.audit_report.proofs.orders.add_orders.Goals as goal

pub loop-number-init : goal.loop-number-init
loop-number-init g c = added_none (box Orders) c.args.chunks.now

pub loop-number-preserved : goal.loop-number-preserved
loop-number-preserved g c =
    let told = c.args.lives.told in
    let journal = c.args.lives.book.now.journal in
    number_added (box Orders) (row_at told.config.now told.symbol journal (run_of told.config.now told.symbol journal)) c.loop-number.number
    c.args.chunks.now c.loop-number.chunks c.add_order.new.chunks c.loop-number.invariant c.in_ok-add_order.ensures
