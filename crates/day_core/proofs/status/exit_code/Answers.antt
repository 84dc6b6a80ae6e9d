use Rattle.std.proofs.Common.{rules}
use Rattle.day_core.proofs.status.exit_code.Goals as goal

pub returns-in-Damaged : goal.returns-in-Damaged
returns-in-Damaged c = search rules
