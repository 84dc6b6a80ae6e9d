use Rattle.peg_groups.proofs.GroupLookup.{of_values}
use Rattle.peg_groups.proofs.groups.group_at.Goals as goal

pub returns : goal.returns
returns c = of_values c.args.groups.now.entries c.args.i c.index.result.now c.index.ensures
