use Rattle.std.proofs.Common.{rules}
use Rattle.io_edge.proofs.gathering.GatheringSink.write_gathered.Goals as goal

pub returns-clause-empty : goal.returns-clause-empty
returns-clause-empty g c = search rules

pub returns-clause-room : goal.returns-clause-room
returns-clause-room g c = search rules
