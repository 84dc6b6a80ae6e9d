use Rattle.std.proofs.Common.{arith, rules}
use Rattle.std.proofs.lemmas.Grind.{common_steps}
use Rattle.session_core.specs.Checks.{first_failed}
use Rattle.session_core.proofs.checks.first_failed.Goals as goal

pub returns-in-Some-first_outside : goal.returns-in-Some-first_outside
unfolding first_failed
returns-in-Some-first_outside c = grind (arith, common_steps)

pub returns-in-Some-first_long : goal.returns-in-Some-first_long
unfolding first_failed
returns-in-Some-first_long c = search rules

pub returns-in-None : goal.returns-in-None
unfolding first_failed
returns-in-None c = search rules
