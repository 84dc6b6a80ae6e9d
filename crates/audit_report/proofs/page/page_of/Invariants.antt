-- What was put of the sections so far is woven in.
use Rattle.std.proofs.Common.{◌≤◌, length, take}
use Rattle.audit_report.specs.Weaving.{IsWoven}
use Rattle.audit_report.proofs.page.page_of.Given as goal

abbrev pub invariant-loop-place : goal.invariant-loop-place
invariant-loop-place l = record {
  woven : IsWoven (take l.begin l.sections) l.out.items;
  within : l.begin ≤ length l.sections;
}
