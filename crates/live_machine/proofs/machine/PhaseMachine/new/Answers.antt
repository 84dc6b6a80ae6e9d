use Rattle.std.proofs.Common.{refl}
use Rattle.replay_core.specs.Play.{start}
use Rattle.live_machine.proofs.machine.PhaseMachine.new.Goals as goal

pub returns-clause-start : goal.returns-clause-start
returns-clause-start g c = (start, refl, record { stage = c.new.ensures.header; lines = refl; bytes = refl })
