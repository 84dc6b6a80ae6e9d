use Rattle.std.proofs.Common.{rules}
use Rattle.eager_meaning.specs.Walk.{may_fill}
use Rattle.min_quantity.proofs.minimum.may_fill.Goals as goal

pub returns-then-least_fill-most-clause-value : goal.returns-then-least_fill-most-clause-value
unfolding may_fill
returns-then-least_fill-most-clause-value c = search rules
