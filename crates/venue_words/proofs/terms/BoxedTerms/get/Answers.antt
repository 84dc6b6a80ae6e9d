use Rattle.std.proofs.Common.{rules}
use Rattle.venue_words.proofs.terms.BoxedTerms.get.Goals as goal

pub returns-in-Usual : goal.returns-in-Usual
returns-in-Usual c = search rules
