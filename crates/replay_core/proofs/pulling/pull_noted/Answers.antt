use Rattle.std.proofs.Common.{refl, inr}
use Rattle.replay_core.proofs.pulling.pull_noted.Goals as goal

pub returns-then-not-is_noted-clause-pulled : goal.returns-then-not-is_noted-clause-pulled
returns-then-not-is_noted-clause-pulled g c = inr (c.is_noted.ensures.none c.if-not-is_noted.true, refl, refl)
