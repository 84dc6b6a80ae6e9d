use Rattle.std.proofs.Common.{rules}
use Rattle.turn_gate.proofs.calls.look.Goals as goal

pub returns-clause-reports : goal.returns-clause-reports
returns-clause-reports g c = search rules

pub returns-clause-front : goal.returns-clause-front
returns-clause-front g c = search rules
