-- The rules so far have their sums.
use Rattle.audit_summary.specs.Sums.{AreRejections}
use Rattle.audit_summary.proofs.sums.rejections.Given as goal

abbrev pub invariant-loop-place : goal.invariant-loop-place
invariant-loop-place l = AreRejections l.many l.place l.reports l.columns.items
