use Rattle.market_laws.proofs.Lasting.{rows_placed}
use Rattle.market_laws.proofs.orders.rows_are_placed.Goals as goal

pub returns : goal.returns
returns c = rows_placed
