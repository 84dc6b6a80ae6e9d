use Rattle.std.proofs.Common.{ap, sym, ◌∙◌}
use Rattle.limit_tree.specs.Link.{link_rows}
use Rattle.limit_tree.proofs.Heights.{full_over, height_small}
use Rattle.limit_tree.proofs.node.height_of.Goals as goal

pub returns-in-Some-clause-full : goal.returns-in-Some-clause-full
returns-in-Some-clause-full c =
    rw (ap link_rows c.in-Some.is ∙ sym (ap (λ p. p.rows) (c.behind-node.view_is ∙ c.deref.ensures)))
    (full_over _ c.behind-node.inside.left c.behind-node.inside.row c.behind-node.inside.right c.behind-node.invariant.height c.behind-node.invariant.balanced c.behind-node.invariant.left_full c.behind-node.invariant.right_full)

pub returns-in-Some-clause-small : goal.returns-in-Some-clause-small
returns-in-Some-clause-small c =
    height_small _ _ c.behind-node.invariant.ordered
    (full_over _ c.behind-node.inside.left c.behind-node.inside.row c.behind-node.inside.right c.behind-node.invariant.height c.behind-node.invariant.balanced c.behind-node.invariant.left_full c.behind-node.invariant.right_full)
