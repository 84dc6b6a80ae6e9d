use Rattle.std.proofs.Common.{rules}
use Rattle.quote_intake.specs.Price.{in_range}
use Rattle.market_data.specs.Entries.{whole_cents}
use Rattle.market_data.proofs.entries.whole_cents.Goals as goal

pub returns-then-units-gt0 : goal.returns-then-units-gt0
unfolding whole_cents in_range
returns-then-units-gt0 c = search rules
