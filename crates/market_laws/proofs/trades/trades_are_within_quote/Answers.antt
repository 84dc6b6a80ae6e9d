use Rattle.market_laws.proofs.Lasting.{trades_within_quote}
use Rattle.market_laws.proofs.trades.trades_are_within_quote.Goals as goal

pub returns : goal.returns
returns c = trades_within_quote
