use Rattle.limit_tree.proofs.InOrder.{ordered_front, ordered_right, ordered_left}
use Rattle.limit_tree.proofs.balance.lean_left.Goals as goal

pub attach-low-requires-clause-ordered : goal.attach-low-requires-clause-ordered
attach-low-requires-clause-ordered c = ordered_right _ _ _ _ _ (rw c.parts-outer.ensures.rows at c.requires.ordered)

pub attach-left-requires-clause-ordered : goal.attach-left-requires-clause-ordered
attach-left-requires-clause-ordered c =
    let o = rw (c.parts-outer.ensures.rows, c.in-Some.is, c.parts-front.ensures.rows) at c.requires.ordered in
    rw c.parts-outer.ensures.row (ordered_left _ _ _ _ _ (ordered_front _ _ o))

pub attach-right-requires-clause-ordered : goal.attach-right-requires-clause-ordered
attach-right-requires-clause-ordered c =
    let o = rw (c.parts-outer.ensures.rows, c.in-Some.is, c.parts-front.ensures.rows) at c.requires.ordered in
    ordered_right _ _ _ _ _ (ordered_right _ _ _ _ _ o)
