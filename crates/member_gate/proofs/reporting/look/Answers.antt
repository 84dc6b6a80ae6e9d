use Rattle.std.proofs.Common.{rules}
use Rattle.member_gate.specs.Reporting.{messages_at}
use Rattle.member_gate.proofs.reporting.look.Goals as goal

pub returns-clause-messages : goal.returns-clause-messages
unfolding messages_at
returns-clause-messages g c = search rules
