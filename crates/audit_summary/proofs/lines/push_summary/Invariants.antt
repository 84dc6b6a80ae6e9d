-- The lines so far stand there.
use Rattle.std.proofs.Common.{◌≡◌, ◌++◌}
use Rattle.audit_summary.specs.Summaries.{lines_to}
use Rattle.audit_summary.proofs.lines.push_summary.Given as goal

abbrev pub invariant-loop-member : goal.invariant-loop-member
invariant-loop-member l =
    l.out.items ≡ l.initial.out.items ++ lines_to l.member l.config l.symbol l.book.journal
