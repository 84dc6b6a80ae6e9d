use Rattle.std.proofs.Common.{rules}
use Rattle.replay_core.proofs.player.Player.work.Goals as goal

pub returns-in-Err-clause-fault : goal.returns-in-Err-clause-fault
returns-in-Err-clause-fault g c = search rules
