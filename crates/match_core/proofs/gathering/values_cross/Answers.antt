use Rattle.std.proofs.Common.{rules}
use Rattle.match_core.proofs.gathering.values_cross.Goals as goal

pub returns-in-Some-Some : goal.returns-in-Some-Some
returns-in-Some-Some c = search rules
