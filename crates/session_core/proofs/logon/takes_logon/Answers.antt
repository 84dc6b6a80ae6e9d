use Rattle.std.proofs.Common.{arith, rules}
use Rattle.std.proofs.lemmas.Grind.{common_steps}
use Rattle.session_core.specs.Logon.{takes_logon}
use Rattle.session_core.proofs.logon.takes_logon.Goals as goal

pub returns-then-next-incoming-clause-plan : goal.returns-then-next-incoming-clause-plan
unfolding takes_logon
returns-then-next-incoming-clause-plan c = grind (arith, common_steps)

pub returns-else-next-incoming-clause-plan : goal.returns-else-next-incoming-clause-plan
unfolding takes_logon
returns-else-next-incoming-clause-plan c = search rules
