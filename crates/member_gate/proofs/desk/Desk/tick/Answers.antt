use Rattle.std.proofs.Common.{rules}
use Rattle.member_gate.proofs.desk.Desk.tick.Goals as goal

pub returns-clause-turn : goal.returns-clause-turn
returns-clause-turn c = search rules
