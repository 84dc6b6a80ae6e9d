use Rattle.std.proofs.Common.{rules}
use Rattle.day_core.proofs.journal.Journal.had.Goals as goal

pub returns : goal.returns
returns g c = search rules
