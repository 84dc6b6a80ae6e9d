use Rattle.std.proofs.Common.{◌+◌, ◌-◌, ◌^◌, ◌≤◌, min, None, ⊎_elim, arith}
use Rattle.venue_words.specs.Causes.{Rose}
use Rattle.replay_core.proofs.Loads.{load_ends}
use Rattle.script_laws.proofs.complete.replay_surely.Goals as goal

never : Rose 0 0 → ⊥
never r = let above : min (0 + 1) (2 ^ 64 - 1) ≤ 0 = r in omega arith

pub returns-clause-load : goal.returns-clause-load
returns-clause-load g c orders quotes plan =
    let run = c.replay.ensures.run in
    load_ends orders quotes None None None None 0 0 run.ended c.replay.result (run.ends.load orders quotes plan).outcome run.told
    (λ is. ⊎_elim never never (run.caused.write is))
