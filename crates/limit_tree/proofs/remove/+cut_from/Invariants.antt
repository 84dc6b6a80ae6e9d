use Rattle.std.proofs.Common.{length}
use Rattle.limit_tree.specs.Link.{link_rows}
use Rattle.limit_tree.proofs.remove.+cut_from.Given as goal

abbrev pub decreases-cut_from : goal.decreases-cut_from
decreases-cut_from g l = length (link_rows l.link.now)
