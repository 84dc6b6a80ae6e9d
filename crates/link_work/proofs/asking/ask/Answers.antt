use Rattle.std.proofs.Common.{rules}
use Rattle.link_work.proofs.asking.ask.Goals as goal

pub returns-clause-asked : goal.returns-clause-asked
returns-clause-asked g c = search rules
