use Rattle.std.proofs.Common.{rules}
use Rattle.best_prices.proofs.markets.bid_after.Goals as goal

pub returns-then-eq : goal.returns-then-eq
returns-then-eq c = search rules
