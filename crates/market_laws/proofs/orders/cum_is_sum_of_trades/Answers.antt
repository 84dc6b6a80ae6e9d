use Rattle.market_laws.proofs.Summing.{cum_is_sum}
use Rattle.market_laws.proofs.orders.cum_is_sum_of_trades.Goals as goal

pub returns : goal.returns
returns c = cum_is_sum
