use Rattle.quote_flow.specs.Cells.{fresh}
use Rattle.quote_flow.proofs.Runs.{some_of}
use Rattle.quote_flow.proofs.laws.passes_some.Goals as goal

pub returns : goal.returns
returns c pace events = some_of pace fresh events
