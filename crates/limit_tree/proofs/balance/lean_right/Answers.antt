use Rattle.limit_tree.proofs.InOrder.{ordered_behind, ordered_right, ordered_left}
use Rattle.limit_tree.proofs.balance.lean_right.Goals as goal

pub attach-low-requires-clause-ordered : goal.attach-low-requires-clause-ordered
attach-low-requires-clause-ordered c = ordered_left _ _ _ _ _ (rw c.parts-inner.ensures.rows at c.requires.ordered)

pub attach-left-requires-clause-ordered : goal.attach-left-requires-clause-ordered
attach-left-requires-clause-ordered c =
    let o = rw (c.parts-inner.ensures.rows, c.in-Some.is, c.parts-front.ensures.rows) at c.requires.ordered in
    ordered_left _ _ _ _ _ (ordered_left _ _ _ _ _ o)

pub attach-right-requires-clause-ordered : goal.attach-right-requires-clause-ordered
attach-right-requires-clause-ordered c =
    let o = rw (c.parts-inner.ensures.rows, c.in-Some.is, c.parts-front.ensures.rows) at c.requires.ordered in
    rw c.parts-inner.ensures.row (ordered_right _ _ _ _ _ (ordered_behind _ _ _ o))
