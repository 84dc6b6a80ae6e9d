use Rattle.std.proofs.Common.{arith}
use Rattle.std.proofs.lemmas.Grind.{common_steps}
use Rattle.listing.specs.Commands.{peg_terms}
use Rattle.listing.proofs.fields.push_peg_terms.Goals as goal

pub returns : goal.returns
unfolding peg_terms
returns c = grind (arith, common_steps)
