use Rattle.std.proofs.Common.{rules}
use Rattle.listing_reader.specs.Told.{told_counts}
use Rattle.listing_reader.proofs.lines.told_counts.Goals as goal

pub returns : goal.returns
unfolding told_counts
returns c = search rules
