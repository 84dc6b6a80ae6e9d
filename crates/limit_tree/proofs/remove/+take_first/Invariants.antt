use Rattle.std.proofs.Common.{length}
use Rattle.limit_tree.specs.Link.{link_rows}
use Rattle.limit_tree.proofs.remove.+take_first.Given as goal

abbrev pub decreases-take_first : goal.decreases-take_first
decreases-take_first g l = length (link_rows l.link.now)
