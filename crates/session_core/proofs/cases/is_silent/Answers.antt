use Rattle.std.proofs.Common.{rules}
use Rattle.session_core.proofs.cases.is_silent.Goals as goal

pub returns : goal.returns
returns c = search rules
