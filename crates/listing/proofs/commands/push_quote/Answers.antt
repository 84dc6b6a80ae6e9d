use Rattle.std.proofs.Common.{arith}
use Rattle.std.proofs.lemmas.Grind.{common_steps}
use Rattle.listing.specs.Commands.{quote_text}
use Rattle.listing.proofs.commands.push_quote.Goals as goal

pub returns : goal.returns
unfolding quote_text
returns c = grind (arith, common_steps)
