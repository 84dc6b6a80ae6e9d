use Rattle.std.proofs.Common.{refl, ap, sym, ◌∙◌}
use Rattle.limit_tree.specs.Link.{link_rows}
use Rattle.limit_tree.proofs.Finding.{least_is_held}
use Rattle.limit_tree.proofs.Inserting.{split_of}
use Rattle.limit_tree.proofs.search.has_least.Goals as goal

pub returns-in-Some : goal.returns-in-Some
returns-in-Some c =
    let s = split_of (ap link_rows c.in-Some.is ∙ sym (ap (λ p. p.rows) (c.behind-node.view_is ∙ c.deref.ensures))) refl c.behind-node.invariant.ordered in
    rw (s.is, c.behind-node.invariant.least) (least_is_held _ _ _ c.args.entry s.ordered (rw s.is at c.requires))
