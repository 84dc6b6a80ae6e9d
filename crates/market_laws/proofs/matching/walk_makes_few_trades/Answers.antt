use Rattle.market_laws.specs.Fewer.{few_of_walk}
use Rattle.market_laws.proofs.matching.walk_makes_few_trades.Goals as goal

pub returns : goal.returns
returns c = few_of_walk
