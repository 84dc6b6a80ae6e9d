use Rattle.std.proofs.Common.{rules}
use Rattle.replay_core.proofs.phase.begin_anew.Goals as goal

pub returns-clause-stage : goal.returns-clause-stage
returns-clause-stage g c = search rules

pub returns-clause-ready : goal.returns-clause-ready
returns-clause-ready g c = search rules
