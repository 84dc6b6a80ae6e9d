-- The lines so far stand there.
use Rattle.std.proofs.Common.{◌≡◌, ◌++◌, take}
use Rattle.audit_order.specs.Lives.{report_lines}
use Rattle.audit_order.proofs.life.push_reports.Given as goal

abbrev pub invariant-loop-report : goal.invariant-loop-report
invariant-loop-report l = l.out.items ≡ l.initial.out.items ++ report_lines l.config l.journal l.first (take l.report-index l.reports)
