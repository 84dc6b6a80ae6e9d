use Rattle.std.proofs.Common.{rules}
use Rattle.peg_groups.proofs.first.goes_first.Goals as goal

pub returns-then-a-b-2 : goal.returns-then-a-b-2
returns-then-a-b-2 c = search rules
