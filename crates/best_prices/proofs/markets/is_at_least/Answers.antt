use Rattle.std.proofs.Common.{rules}
use Rattle.best_prices.proofs.markets.is_at_least.Goals as goal

pub returns-in-Some-Some : goal.returns-in-Some-Some
returns-in-Some-Some c = search rules
