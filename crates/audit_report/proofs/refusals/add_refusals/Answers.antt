use Rattle.std.proofs.Common.{arith}
use Rattle.audit_html.proofs.Boxing.{added_none}
use Rattle.audit_report.specs.declared.parts.Part.TheVariants.{Refusals}
use Rattle.audit_report.specs.Parts.{box}
use Rattle.audit_report.specs.Refusals.{row_of}
use Rattle.audit_report.proofs.Collecting.{next_added}
use Rattle.audit_report.proofs.refusals.add_refusals.Goals as goal

pub loop-report-init : goal.loop-report-init
loop-report-init c = added_none (box Refusals) c.args.chunks.now

pub loop-report-preserved : goal.loop-report-preserved
loop-report-preserved c =
    next_added (box Refusals) (row_of c.args.config.now) c.args.reports.now c.loop-report.report-index c.report-item.result c.args.chunks.now c.loop-report.chunks
    c.add_refusal.new.chunks (omega arith) c.report-item.is c.loop-report.invariant c.in_ok-add_refusal.ensures
