use Rattle.std.proofs.Common.{rules}
use Rattle.quote_intake.specs.Price.{in_range}
use Rattle.quote_intake.proofs.prices.in_range.Goals as goal

pub returns-then-cents-from-clause-value : goal.returns-then-cents-from-clause-value
unfolding in_range
returns-then-cents-from-clause-value c = search rules

pub returns-then-cents-from-clause-fits : goal.returns-then-cents-from-clause-fits
returns-then-cents-from-clause-fits c = search rules
