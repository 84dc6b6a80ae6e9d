use Rattle.std.proofs.Common.{rules}
use Rattle.peg_groups.proofs.group.price_pair.Goals as goal

pub returns-clause-time : goal.returns-clause-time
returns-clause-time g c = search rules
