use Rattle.std.proofs.Common.{rules}
use Rattle.venue_words.proofs.steps.Steps.tick.Goals as goal

pub returns : goal.returns
returns g c = search rules
