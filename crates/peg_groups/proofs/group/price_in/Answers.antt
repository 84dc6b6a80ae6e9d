use Rattle.std.proofs.Common.{rules}
use Rattle.peg_groups.proofs.group.price_in.Goals as goal

pub returns-then-holds-clause-found : goal.returns-then-holds-clause-found
returns-then-holds-clause-found g c = search rules
