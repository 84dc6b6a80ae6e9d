use Rattle.std.proofs.Common.{rules}
use Rattle.venue_words.proofs.id.BoxedId.copy.Goals as goal

pub returns : goal.returns
returns c = search rules
