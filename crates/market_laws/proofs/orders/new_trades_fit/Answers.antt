use Rattle.market_laws.proofs.Arriving.{new_trades_fit}
use Rattle.market_laws.proofs.orders.new_trades_fit.Goals as goal

pub returns : goal.returns
returns c = new_trades_fit
