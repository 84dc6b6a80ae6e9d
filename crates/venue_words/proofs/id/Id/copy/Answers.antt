use Rattle.std.proofs.Common.{rules}
use Rattle.venue_words.proofs.id.Id.copy.Goals as goal

pub returns-in-Short : goal.returns-in-Short
returns-in-Short c = search rules
