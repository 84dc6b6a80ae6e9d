use Rattle.std.proofs.Common.{◌≡◌, ◌==◌, take}
use Rattle.std.specs.Prelude.{filter}
use Rattle.symbol_book.proofs.copying.reports_to.Given as goal

-- the copies are the member's reports so far
abbrev pub invariant-loop-report : goal.invariant-loop-report
invariant-loop-report l =
    l.copies.items ≡ filter (λ report. report.member == l.member) (take l.report-index l.reports)
