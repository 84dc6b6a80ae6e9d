use Rattle.market_laws.proofs.Allowing.{quote_trades_fit}
use Rattle.market_laws.proofs.orders.quote_trades_fit.Goals as goal

pub returns : goal.returns
returns c = quote_trades_fit
