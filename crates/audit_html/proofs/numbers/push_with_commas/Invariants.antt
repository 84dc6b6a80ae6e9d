-- The digits so far stand there; those that are still to come follow.
use Rattle.std.proofs.Common.{◌≡◌, ◌++◌, drop}
use Rattle.audit_html.specs.Numbers.{with_commas}
use Rattle.audit_html.proofs.numbers.push_with_commas.Given as goal

abbrev pub invariant-loop-place : goal.invariant-loop-place
invariant-loop-place l = l.out.items ++ with_commas (drop l.place l.digits) ≡ l.initial.out.items ++ with_commas l.digits
