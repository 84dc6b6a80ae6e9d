use Rattle.market_laws.proofs.Identifying.{ids_are_short}
use Rattle.market_laws.proofs.names.ids_are_short.Goals as goal

pub returns : goal.returns
returns c = ids_are_short
