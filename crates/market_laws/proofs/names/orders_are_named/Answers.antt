use Rattle.market_laws.proofs.Using.{orders_are_named}
use Rattle.market_laws.proofs.names.orders_are_named.Goals as goal

pub returns : goal.returns
returns c = orders_are_named
