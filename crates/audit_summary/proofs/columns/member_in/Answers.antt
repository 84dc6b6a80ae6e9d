use Rattle.std.proofs.Common.{rules}
use Rattle.audit_summary.specs.Columns.{member_in}
use Rattle.audit_summary.proofs.columns.member_in.Goals as goal

pub returns-in-Quote : goal.returns-in-Quote
unfolding member_in
returns-in-Quote c = search rules
