-- The rows of the reports so far were added.
use Rattle.std.proofs.Common.{take}
use Rattle.audit_html.specs.Chunks.{Adds}
use Rattle.audit_report.specs.declared.parts.Part.TheVariants.{Refusals}
use Rattle.audit_report.specs.Parts.{box}
use Rattle.audit_report.specs.Refusals.{refusal_rows}
use Rattle.audit_report.proofs.refusals.add_refusals.Given as goal

abbrev pub invariant-loop-report : goal.invariant-loop-report
invariant-loop-report l = Adds (box Refusals) (refusal_rows l.config (take l.report-index l.reports)) l.initial.chunks l.chunks
