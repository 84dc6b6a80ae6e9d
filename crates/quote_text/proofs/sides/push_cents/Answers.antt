use Rattle.std.proofs.Common.{arith}
use Rattle.std.proofs.lemmas.Grind.{common_steps}
use Rattle.quote_text.specs.Sides.{cents_text}
use Rattle.quote_text.proofs.sides.push_cents.Goals as goal

pub returns : goal.returns
unfolding cents_text
returns c = grind (arith, common_steps)
