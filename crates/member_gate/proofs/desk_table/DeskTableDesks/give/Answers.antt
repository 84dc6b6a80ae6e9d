use Rattle.std.proofs.Common.{rules}
use Rattle.member_gate.proofs.desk_table.DeskTableDesks.give.Goals as goal

pub put-requires : goal.put-requires
put-requires c = search rules

pub returns-clause-told : goal.returns-clause-told
returns-clause-told c = search rules
