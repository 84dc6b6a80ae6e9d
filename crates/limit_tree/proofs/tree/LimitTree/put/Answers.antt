use Rattle.std.proofs.Common.{◌≡◌, ap, sym, ◌∙◌, arith}
use Rattle.limit_tree.specs.Link.{link_rows}
use Rattle.limit_tree.specs.Order.{highest_cap}
use Rattle.limit_tree.proofs.Highest.{highest-insert}
use Rattle.limit_tree.proofs.Inserting.{free_if_not_held}
use Rattle.limit_tree.proofs.tree.LimitTree.put.Goals as goal

pub put_into-requires-clause-free : goal.put_into-requires-clause-free
put_into-requires-clause-free g c = free_if_not_held _ _ _ (rw (← c.self.view_is) at c.requires.free)

pub invariant_of-self : goal.invariant_of-self
invariant_of-self g c =
    let row : c.behind-node.inside.row ≡ c.args.node.value.row = ap (λ p. p.row) (c.behind-node.view_is ∙ c.deref.ensures) in
    let old : highest_cap (link_rows c.self.inside.root) ≡ c.self.inside.greatest = sym c.self.invariant in
    rw (c.put_into.ensures.rows, highest-insert, old, ← row) (omega (arith, c.behind-node.invariant.cap, c.max-self-inside.ensures))
