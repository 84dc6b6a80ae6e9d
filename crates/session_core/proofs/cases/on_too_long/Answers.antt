use Rattle.std.proofs.Common.{rules}
use Rattle.session_core.specs.Cases.{on_too_long}
use Rattle.session_core.proofs.cases.on_too_long.Goals as goal

pub returns-clause-plan : goal.returns-clause-plan
unfolding on_too_long
returns-clause-plan c = search rules
