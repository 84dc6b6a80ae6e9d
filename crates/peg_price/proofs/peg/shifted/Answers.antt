use Rattle.std.proofs.Common.{rules}
use Rattle.peg_price.proofs.peg.shifted.Goals as goal

pub returns-then-is_more_aggressive-clause-value : goal.returns-then-is_more_aggressive-clause-value
returns-then-is_more_aggressive-clause-value c = search rules

pub returns-else-is_more_aggressive-clause-value : goal.returns-else-is_more_aggressive-clause-value
returns-else-is_more_aggressive-clause-value c = search rules
