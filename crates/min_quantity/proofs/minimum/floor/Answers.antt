use Rattle.std.proofs.Common.{arith, rules}
use Rattle.std.proofs.lemmas.Grind.{common_steps}
use Rattle.eager_meaning.specs.Floor.{floor}
use Rattle.min_quantity.proofs.minimum.floor.Goals as goal

pub returns-else-eq-clause-value : goal.returns-else-eq-clause-value
unfolding floor
returns-else-eq-clause-value c = grind (arith, common_steps)

pub returns-then-row-clause-value : goal.returns-then-row-clause-value
unfolding floor
returns-then-row-clause-value c = search rules

pub returns-else-eq-clause-within : goal.returns-else-eq-clause-within
returns-else-eq-clause-within c = search rules
