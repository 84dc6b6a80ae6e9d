use Rattle.std.proofs.Common.{rules}
use Rattle.venue_words.proofs.price.value.Goals as goal

pub returns-in-Sell : goal.returns-in-Sell
returns-in-Sell c = search rules
