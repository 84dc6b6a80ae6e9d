use Rattle.std.proofs.Common.{refl, ⊎_elim}
use Rattle.day_core.proofs.Completing.{whole_day}
use Rattle.day_core.proofs.complete.day_whole.Goals as goal

pub returns : goal.returns
returns g c shelf out err disk honest sound =
    whole_day _ _ _ _ _ _ _ c.day.ensures.run.0 c.day.result.0 _ _ _ _ _ refl c.day.ensures.run.1 c.day.ensures.run.2 err
    (λ e. shelf (c.day.ensures.read e)) (λ e. ⊎_elim out err (c.day.ensures.write e)) (λ e. disk (c.day.ensures.disk e)) honest sound
