use Rattle.std.proofs.Common.{arith}
use Rattle.std.proofs.lemmas.Grind.{common_steps}
use Rattle.audit_feeds.proofs.departures.next_command.Goals as goal

pub returns-then-asked-symbol-clause-some : goal.returns-then-asked-symbol-clause-some
returns-then-asked-symbol-clause-some c = grind (arith, common_steps)
