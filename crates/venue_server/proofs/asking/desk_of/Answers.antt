use Rattle.std.proofs.Common.{rules}
use Rattle.venue_server.proofs.asking.desk_of.Goals as goal

pub returns : goal.returns
returns c = search rules
