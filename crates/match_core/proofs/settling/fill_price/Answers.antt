use Rattle.std.proofs.Common.{rules}
use Rattle.eager_meaning.specs.Matching.{fill_price}
use Rattle.match_core.proofs.settling.fill_price.Goals as goal

pub returns : goal.returns
unfolding fill_price
returns c = search rules
