use Rattle.std.proofs.Common.{rules}
use Rattle.listing_reader.proofs.fitting.is_word.Goals as goal

pub returns : goal.returns
returns c = search rules
