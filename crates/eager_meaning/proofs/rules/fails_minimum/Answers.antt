use Rattle.std.proofs.Common.{rules}
use Rattle.eager_meaning.proofs.rules.fails_minimum.Goals as goal

pub returns-in-Some : goal.returns-in-Some
returns-in-Some c = search rules
