use Rattle.std.proofs.Common.{rules}
use Rattle.min_quantity.proofs.minimum.least_fill.Goals as goal

pub returns-in-Once : goal.returns-in-Once
returns-in-Once c = search rules
