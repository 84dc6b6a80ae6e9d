use Rattle.std.proofs.Common.{arith, rules}
use Rattle.std.proofs.lemmas.Grind.{common_steps}
use Rattle.session_core.specs.Sequence.{by_number}
use Rattle.session_core.proofs.sequence.by_number.Goals as goal

pub returns-clause-plan : goal.returns-clause-plan
unfolding by_number
returns-clause-plan c = grind (arith, common_steps)

pub returns-then-state-incoming-clause-plan : goal.returns-then-state-incoming-clause-plan
unfolding by_number
returns-then-state-incoming-clause-plan c = search rules
