use Rattle.std.proofs.Common.{rules}
use Rattle.drop_copy.proofs.copying.look.Goals as goal

pub returns-clause-messages : goal.returns-clause-messages
returns-clause-messages g c = search rules
