use Rattle.std.proofs.Common.{rules}
use Rattle.member_gate.proofs.desk.Desk.open.Goals as goal

pub returns : goal.returns
returns c = search rules
