use Rattle.market_laws.proofs.Growing.{goes_on}
use Rattle.market_laws.proofs.histories.history_goes_on.Goals as goal

pub returns : goal.returns
returns c = goes_on
