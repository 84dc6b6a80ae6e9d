use Rattle.std.proofs.Common.{rules}
use Rattle.move_history.proofs.moves.Moves.push.Goals as goal

pub returns-clause-ticks : goal.returns-clause-ticks
returns-clause-ticks g c = search rules

pub returns-clause-changes : goal.returns-clause-changes
returns-clause-changes g c = search rules

pub returns-clause-tells : goal.returns-clause-tells
returns-clause-tells g c = search rules
