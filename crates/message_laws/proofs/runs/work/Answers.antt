use Rattle.std.proofs.Common.{rules}
use Rattle.session_core.specs.Machine.{on_reject}
use Rattle.message_laws.proofs.runs.work.Goals as goal

pub returns-in-TooLong-clause-answer : goal.returns-in-TooLong-clause-answer
unfolding on_reject
returns-in-TooLong-clause-answer c = search rules

pub returns-in-TooLong-clause-machine : goal.returns-in-TooLong-clause-machine
unfolding on_reject
returns-in-TooLong-clause-machine c = search rules
