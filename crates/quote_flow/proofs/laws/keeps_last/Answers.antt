use Rattle.quote_flow.specs.Cells.{fresh}
use Rattle.quote_flow.proofs.Runs.{newest_after}
use Rattle.quote_flow.proofs.laws.keeps_last.Goals as goal

pub returns : goal.returns
returns c pace events = newest_after pace fresh events
