use Rattle.std.proofs.Common.{rules}
use Rattle.audit_summary.proofs.sums.add_row.Goals as goal

pub returns-in_default-clause-rows : goal.returns-in_default-clause-rows
returns-in_default-clause-rows g c = search rules
