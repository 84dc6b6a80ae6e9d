use Rattle.std.proofs.Common.{rules}
use Rattle.audit_telling.proofs.exit.Exit.code.Goals as goal

pub returns-in-Differs : goal.returns-in-Differs
returns-in-Differs c = search rules
