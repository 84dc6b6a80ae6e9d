use Rattle.std.proofs.Common.{length}
use Rattle.limit_tree.specs.Link.{link_rows}
use Rattle.limit_tree.proofs.search.+cap_above.Given as goal

abbrev pub decreases-cap_above : goal.decreases-cap_above
decreases-cap_above g l = length (link_rows l.link.now)
