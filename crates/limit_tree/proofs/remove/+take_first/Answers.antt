use Rattle.std.proofs.Common.{◌≡◌, ◌∷◌, ◌++◌, min, ap, ◌∙◌, inl, inr, arith}
use Rattle.std.proofs.lemmas.Bool.{cases_eq}
use Rattle.limit_tree.specs.Link.{link_rows}
use Rattle.limit_tree.specs.Order.{least_entry}
use Rattle.limit_tree.proofs.LeastEntry.{least_entry-append}
use Rattle.limit_tree.proofs.remove.+take_first.Goals as goal

pub invariant_of-top-then-height_of-height : goal.invariant_of-top-then-height_of-height
invariant_of-top-then-height_of-height g t c =
    let first = c.in-Some-take_first.first.value.row in
    let front = link_rows c.take_first.new.link in
    let back = link_rows c.top.inside.right in
    let e : link_rows c.top.inside.left ≡ first ∷ front = c.in-Some-take_first.ensures.rows ∙ ap (λ rows. rows ++ front) c.in-Some-take_first.ensures.first in
    let gone : c.behind-first.inside.entry ≡ first.entry = c.behind-first.invariant.entry ∙ ap (λ p. p.row.entry) (c.behind-first.view_is ∙ c.deref.ensures) in
    let old : c.top.inside.least ≡ min first.entry (least_entry (front ++ c.top.inside.row ∷ back)) = rw e at c.top.invariant.least in
    record {
      cap = c.top.invariant.cap;
      entry = c.top.invariant.entry;
      ordered = (rw e at c.top.invariant.ordered).2;
      least = elim (cases_eq c.behind-first.inside.entry c.top.inside.least) [
        | inl here ↦ omega (arith, c.least_without-top-inside.ensures.renewed here, c.top.invariant.entry, least_entry-append front (c.top.inside.row ∷ back))
        | inr there ↦ omega (arith, c.least_without-top-inside.ensures.kept there, there, gone, old)
      ];
      height = omega arith;
      balanced = (omega arith, omega arith);
      left_full = rw c.height_of.ensures.height at c.height_of.ensures.full;
      right_full = c.top.invariant.right_full;
    }
