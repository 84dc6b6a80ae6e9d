use Rattle.std.proofs.Common.{arith}
use Rattle.std.proofs.lemmas.Grind.{common_steps}
use Rattle.replay_core.proofs.asked.Asked.clear.Goals as goal

pub invariant_of-self : goal.invariant_of-self
invariant_of-self c = grind (arith, common_steps)

pub returns-then-self-clause-none : goal.returns-then-self-clause-none
returns-then-self-clause-none c = grind (arith, common_steps)
