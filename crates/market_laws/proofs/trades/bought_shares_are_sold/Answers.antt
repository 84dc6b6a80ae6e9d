use Rattle.market_laws.proofs.Lasting.{bought_are_sold}
use Rattle.market_laws.proofs.trades.bought_shares_are_sold.Goals as goal

pub returns : goal.returns
returns c = bought_are_sold
