use Rattle.quote_flow.proofs.Runs.{no_longer}
use Rattle.quote_flow.proofs.laws.holds_no_longer.Goals as goal

pub returns : goal.returns
returns c pace moment cell = no_longer pace cell.last cell.held moment
