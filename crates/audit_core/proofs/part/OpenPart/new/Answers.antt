use Rattle.std.proofs.Common.{rules}
use Rattle.audit_core.proofs.part.OpenPart.new.Goals as goal

pub returns-clause-open : goal.returns-clause-open
returns-clause-open c = search rules
