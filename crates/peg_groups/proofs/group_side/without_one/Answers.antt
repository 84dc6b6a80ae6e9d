use Rattle.std.proofs.Common.{rules}
use Rattle.peg_groups.proofs.group_side.without_one.Goals as goal

pub returns-then-left : goal.returns-then-left
returns-then-left c = search rules
