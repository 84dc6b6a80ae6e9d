use Rattle.std.proofs.Common.{rules}
use Rattle.link_work.proofs.ends.LinkEndFromEndCause.from.Goals as goal

pub returns-in-Silent : goal.returns-in-Silent
returns-in-Silent c = search rules
