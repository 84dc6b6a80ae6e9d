use Rattle.std.proofs.Common.{◌≡◌, ap, sym, arith}
use Rattle.limit_tree.proofs.Inserting.{ltb-same, numbered_middle}
use Rattle.limit_tree.proofs.insert.is_before.Goals as goal

pub returns-else-node-other : goal.returns-else-node-other
returns-else-node-other c =
    let n : c.args.node.now.row ≡ c.node.inside.row = sym (ap (λ p. p.row) c.node.view_is) in
    let m : c.args.other.now.row ≡ c.other.inside.row = sym (ap (λ p. p.row) c.other.view_is) in
    let node = numbered_middle _ _ _ c.node.invariant.ordered in
    let other = numbered_middle _ _ _ c.other.invariant.ordered in
    rw (n, m) (ltb-same c.node.inside.cap c.other.inside.cap _ _
    (λ less. omega (arith, less, node.1, other.1, c.node.invariant.cap, c.other.invariant.cap))
    (λ more. omega (arith, more, node.1, other.1, c.node.invariant.cap, c.other.invariant.cap)))
