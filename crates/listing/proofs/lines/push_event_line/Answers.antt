use Rattle.std.proofs.Common.{arith}
use Rattle.std.proofs.lemmas.Grind.{common_steps}
use Rattle.listing.specs.Lines.{event_line}
use Rattle.listing.proofs.lines.push_event_line.Goals as goal

pub returns : goal.returns
unfolding event_line
returns c = grind (arith, common_steps)
