use Rattle.std.proofs.Common.{rules}
use Rattle.listing_reader.specs.Told.{told_words}
use Rattle.listing_reader.proofs.lines.told_words.Goals as goal

pub returns : goal.returns
unfolding told_words
returns c = search rules
