use Rattle.std.proofs.Common.{rules}
use Rattle.replay_core.proofs.telling.StatusEnding.does_yield.Goals as goal

pub returns-in_default : goal.returns-in_default
returns-in_default c = search rules
