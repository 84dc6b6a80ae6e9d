use Rattle.std.proofs.Common.{rules}
use Rattle.eager_meaning.proofs.rules.new_tests.Goals as goal

pub returns : goal.returns
returns c = search rules
