use Rattle.market_laws.specs.Fewer.{few_of_entered}
use Rattle.market_laws.proofs.matching.entering_makes_few_trades.Goals as goal

pub returns : goal.returns
returns c = few_of_entered
