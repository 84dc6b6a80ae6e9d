use Rattle.std.proofs.Common.{⊎_elim}
use Rattle.replay_core.proofs.Loads.{load_ends}
use Rattle.script_laws.proofs.complete.replay_whole.Goals as goal

pub returns-clause-load : goal.returns-clause-load
returns-clause-load g c out err orders quotes plan =
    let run = c.replay.ensures.run in
    load_ends orders quotes _ _ _ _ _ _ run.ended c.replay.result (run.ends.load orders quotes plan).outcome run.told
    (λ is. ⊎_elim out err (run.caused.write is))
