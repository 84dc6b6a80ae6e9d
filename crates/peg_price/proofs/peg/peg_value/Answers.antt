use Rattle.std.proofs.Common.{rules}
use Rattle.venue_words.specs.Peg.{peg_value}
use Rattle.peg_price.proofs.peg.peg_value.Goals as goal

pub returns-then-has_reference : goal.returns-then-has_reference
unfolding peg_value
returns-then-has_reference c = search rules
