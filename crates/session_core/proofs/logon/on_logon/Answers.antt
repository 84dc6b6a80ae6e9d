use Rattle.std.proofs.Common.{arith, rules}
use Rattle.std.proofs.lemmas.Grind.{common_steps}
use Rattle.session_core.specs.Logon.{on_logon}
use Rattle.session_core.proofs.logon.on_logon.Goals as goal

pub returns-then-incoming-next-clause-plan : goal.returns-then-incoming-next-clause-plan
unfolding on_logon
returns-then-incoming-next-clause-plan c = grind (arith, common_steps)

pub returns-clause-plan : goal.returns-clause-plan
unfolding on_logon
returns-clause-plan c = search rules
