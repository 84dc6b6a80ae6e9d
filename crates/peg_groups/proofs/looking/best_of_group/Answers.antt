use Rattle.std.proofs.Common.{sym}
use Rattle.peg_groups.specs.Group.{value_from}
use Rattle.peg_groups.proofs.BestValues.{under_cap}
use Rattle.peg_groups.proofs.looking.best_of_group.Goals as goal

pub returns : goal.returns
returns c = rw (c.value_below.ensures, c.current.ensures, c.greatest.ensures) (sym (under_cap (value_from c.args.group.now.moves.current) c.args.group.now.tree (sym c.if-is_empty.ensures)))
