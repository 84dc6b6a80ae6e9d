use Rattle.std.proofs.Common.{rules}
use Rattle.replay_core.proofs.flushing.flush_behind.Goals as goal

pub returns-in-Err-clause-written : goal.returns-in-Err-clause-written
returns-in-Err-clause-written g c = search rules
