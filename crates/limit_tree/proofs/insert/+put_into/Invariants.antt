use Rattle.std.proofs.Common.{length}
use Rattle.limit_tree.specs.Link.{link_rows}
use Rattle.limit_tree.proofs.insert.+put_into.Given as goal

abbrev pub decreases-put_into : goal.decreases-put_into
decreases-put_into g l = length (link_rows l.link.now)
