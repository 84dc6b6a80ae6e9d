use Rattle.std.proofs.Common.{rules}
use Rattle.venue_words.proofs.price.Best.is_locked.Goals as goal

pub returns-in-Some-Some : goal.returns-in-Some-Some
returns-in-Some-Some c = search rules
