use Rattle.std.proofs.Common.{arith, rules}
use Rattle.std.proofs.lemmas.Grind.{common_steps}
use Rattle.session_core.specs.Machine.{on_frame}
use Rattle.session_core.proofs.session.Session.work_frame.Goals as goal

pub returns-in-Err : goal.returns-in-Err
unfolding on_frame
returns-in-Err c = grind (arith, common_steps)

pub returns-in-Ok-clause-machine : goal.returns-in-Ok-clause-machine
unfolding on_frame
returns-in-Ok-clause-machine c = search rules

pub returns-in-Ok-clause-turn : goal.returns-in-Ok-clause-turn
unfolding on_frame
returns-in-Ok-clause-turn c = search rules

pub returns-in-Ok-clause-over : goal.returns-in-Ok-clause-over
returns-in-Ok-clause-over c = search rules

pub returns-in-Err-NoMemory-clause-over : goal.returns-in-Err-NoMemory-clause-over
returns-in-Err-NoMemory-clause-over c = search rules
