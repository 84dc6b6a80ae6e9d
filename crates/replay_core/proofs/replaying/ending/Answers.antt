use Rattle.std.proofs.Common.{rules}
use Rattle.replay_core.specs.Play.{end_at}
use Rattle.replay_core.proofs.replaying.ending.Goals as goal

pub returns-in-Body-clause-status : goal.returns-in-Body-clause-status
unfolding end_at
returns-in-Body-clause-status g c = search rules
