use Rattle.market_laws.proofs.Standing.{rows_stand}
use Rattle.market_laws.proofs.orders.rows_stand.Goals as goal

pub returns : goal.returns
returns c = rows_stand
