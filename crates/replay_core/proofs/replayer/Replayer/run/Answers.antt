use Rattle.std.proofs.Common.{rules}
use Rattle.replay_core.proofs.replayer.Replayer.run.Goals as goal

pub returns : goal.returns
returns g c = search rules
