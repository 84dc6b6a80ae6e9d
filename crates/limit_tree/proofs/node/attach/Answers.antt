use Rattle.std.proofs.Common.{◌≡◌, ◌+◌, ◌≤◌, ◌∷◌, ◌++◌, length, max, ap, ◌∙◌, arith}
use Rattle.limit_tree.specs.Link.{link_rows, link_height}
use Rattle.limit_tree.specs.Part.{fewest}
use Rattle.limit_tree.proofs.Heights.{full_over, height_small}
use Rattle.limit_tree.proofs.LeastEntry.{least_entry-append}
use Rattle.limit_tree.proofs.node.attach.Goals as goal

pub overflow_add-height : goal.overflow_add-height
overflow_add-height c =
    let e : c.max-height.result + 1 ≡ max (link_height c.args.left) (link_height c.args.right) + 1 = omega arith in
    let full : fewest (c.max-height.result + 1) ≤ length (link_rows c.args.left ++ c.args.node.value.row ∷ link_rows c.args.right) + 1 =
    full_over _ c.args.left c.args.node.value.row c.args.right e c.requires.balanced (rw c.height_of.ensures.height at c.height_of.ensures.full) (rw c.height_of-2.ensures.height at c.height_of-2.ensures.full) in
    omega (arith, height_small (c.max-height.result + 1) (link_rows c.args.left ++ c.args.node.value.row ∷ link_rows c.args.right) c.requires.ordered full)

pub invariant_of-top : goal.invariant_of-top
invariant_of-top c =
    let same : c.top.inside.row ≡ c.args.node.value.row = ap (λ p. p.row) c.top.view_is ∙ ap (λ p. p.row) c.deref_mut-top.ensures.value in
    record {
      cap = c.top.invariant.cap;
      entry = c.top.invariant.entry;
      ordered = rw same c.requires.ordered;
      least = omega (arith, c.top.invariant.entry, least_entry-append (link_rows c.args.left) (c.top.inside.row ∷ link_rows c.args.right));
      height = omega arith;
      balanced = c.requires.balanced;
      left_full = rw c.height_of.ensures.height at c.height_of.ensures.full;
      right_full = rw c.height_of-2.ensures.height at c.height_of-2.ensures.full;
    }
