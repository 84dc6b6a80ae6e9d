use Rattle.market_laws.proofs.Arriving.{replace_trades_fit}
use Rattle.market_laws.proofs.orders.replace_trades_fit.Goals as goal

pub returns : goal.returns
returns c = replace_trades_fit
