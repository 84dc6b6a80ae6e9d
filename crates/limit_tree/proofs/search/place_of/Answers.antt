use Rattle.std.proofs.Common.{◌≡◌, ◌<◌, ap, sym, arith}
use Rattle.std.proofs.lemmas.Cmp.{ranked}
use Rattle.std.specs.Ordering.{MatchOrdering}
use Rattle.std.specs.declared.cmp.Ordering.TheVariants.{Less, Equal, Greater}
use Rattle.limit_tree.specs.Order.{row_rank, pair_rank, IsAt}
use Rattle.limit_tree.proofs.Inserting.{numbered_middle}
use Rattle.limit_tree.proofs.search.place_of.Goals as goal

pub returns-else-cap-node : goal.returns-else-cap-node
returns-else-cap-node c =
    let n : c.args.node.now.row ≡ c.node.inside.row = sym (ap (λ p. p.row) c.node.view_is) in
    let node = numbered_middle _ _ _ c.node.invariant.ordered in
    rw n (elim c.cmp-else-cap-node.result as (λ o. MatchOrdering o (c.args.cap < c.node.inside.cap) (c.args.cap ≡ c.node.inside.cap) (c.node.inside.cap < c.args.cap) → MatchOrdering o (pair_rank c.args.cap c.args.entry < row_rank c.node.inside.row) (IsAt c.args.cap c.args.entry c.node.inside.row) (row_rank c.node.inside.row < pair_rank c.args.cap c.args.entry)) [
      | Less ↦ λ h. omega (arith, h, node.1, c.node.invariant.cap)
      | Equal ↦ λ h. absurd (omega (arith, h))
      | Greater ↦ λ h. omega (arith, h, node.1, c.node.invariant.cap)
    ] (ranked _ _ _ c.cmp-else-cap-node.ensures))
