use Rattle.std.proofs.Common.{◌≡◌, ◌<◌, ◌≤◌, ◌∷◌, ◌++◌, refl, ap, sym, ◌∙◌, arith, rules}
use Rattle.std.proofs.lemmas.Bool.{ltb-true, ltb-false}
use Rattle.limit_tree.specs.Link.{link_rows}
use Rattle.limit_tree.specs.Order.{row_rank, insert_row, least_entry}
use Rattle.limit_tree.proofs.Inserting.{split_of, free_back, insert_to_left, insert_to_right, ordered_after}
use Rattle.limit_tree.proofs.LeastEntry.{least_entry-insert}
use Rattle.limit_tree.proofs.insert.+put_into.Goals as goal
use Rattle.limit_tree.proofs.insert.+put_into.Goals.{then-is_before, else-is_before}

pub put_into-requires-else-is_before : goal.put_into-requires-else-is_before
put_into-requires-else-is_before g t c κs within =
    let s = split_of (ap link_rows c.in-Some.is ∙ sym (ap (λ p. p.rows) (c.top.view_is ∙ c.deref_mut-top.ensures.value))) refl c.top.invariant.ordered in
    (omega (arith, s.shorter.1), (within, (c.requires.alone, (c.requires.numbered, free_back _ _ s c.requires.free))))

pub invariant_of-top : goal.invariant_of-top
invariant_of-top g t c =
    let x = c.args.node.value.row in
    let s = split_of (ap link_rows c.in-Some.is ∙ sym (ap (λ p. p.rows) (c.top.view_is ∙ c.deref_mut-top.ensures.value))) refl c.top.invariant.ordered in
    let entry : c.behind-node.inside.entry ≡ x.entry = c.behind-node.invariant.entry ∙ ap (λ p. p.row.entry) (c.behind-node.view_is ∙ c.deref.ensures) in
    let least : c.top.inside.least ≡ least_entry (link_rows c.args.link.now) = rw s.is c.top.invariant.least in
    elim c.if-is_before.branch [
      | then-is_before w ↦
          let h : row_rank x < row_rank c.top.inside.row = rw (c.deref-in-Some.ensures, ← c.top.view_is) at (ltb-true _ _ (sym w.if-is_before.ensures)) in
          let rows : link_rows w.put_into.new.link ++ c.top.inside.row ∷ link_rows c.top.inside.right ≡ insert_row x (link_rows c.args.link.now) = rw w.put_into.ensures.rows (sym (insert_to_left x s h)) in
          let side = rw (w.side-is, w.top-inside-is, w.height_of-side.ensures.height) at c.if-side-top.true in
          rw w.top-inside-is (record {
            cap = c.top.invariant.cap;
            entry = c.top.invariant.entry;
            ordered = rw rows (ordered_after x c.requires.numbered s c.requires.free);
            least = rw (rows, least_entry-insert) (omega (arith, least, entry, rw w.top-inside-is at c.min-top-inside.ensures));
            height = omega (arith, side);
            balanced = (omega (arith, side), omega (arith, side));
            left_full = rw w.height_of-side.ensures.height at w.height_of-side.ensures.full;
            right_full = c.top.invariant.right_full;
          })
      | else-is_before w ↦
          let h : row_rank c.top.inside.row ≤ row_rank x = rw (c.deref-in-Some.ensures, ← c.top.view_is) at (ltb-false _ _ (sym w.if-is_before.ensures)) in
          let rows : link_rows c.top.inside.left ++ c.top.inside.row ∷ link_rows w.put_into-else-is_before.new.link ≡ insert_row x (link_rows c.args.link.now) = rw w.put_into-else-is_before.ensures.rows (sym (insert_to_right x s h)) in
          let side = rw (w.side-is, w.top-inside-is, w.height_of-side-else-is_before.ensures.height) at c.if-side-top.true in
          rw w.top-inside-is (record {
            cap = c.top.invariant.cap;
            entry = c.top.invariant.entry;
            ordered = rw rows (ordered_after x c.requires.numbered s c.requires.free);
            least = rw (rows, least_entry-insert) (omega (arith, least, entry, rw w.top-inside-is at c.min-top-inside.ensures));
            height = omega (arith, side);
            balanced = (omega (arith, side), omega (arith, side));
            left_full = c.top.invariant.left_full;
            right_full = rw w.height_of-side-else-is_before.ensures.height at w.height_of-side-else-is_before.ensures.full;
          })
    ]

pub returns-then-side-top-clause-rows : goal.returns-then-side-top-clause-rows
returns-then-side-top-clause-rows g t c =
    let x = c.args.node.value.row in
    let s = split_of (ap link_rows c.in-Some.is ∙ sym (ap (λ p. p.rows) (c.top.view_is ∙ c.deref_mut-top.ensures.value))) refl c.top.invariant.ordered in
    elim c.if-is_before.branch [
      | then-is_before w ↦
          let h : row_rank x < row_rank c.top.inside.row = rw (c.deref-in-Some.ensures, ← c.top.view_is) at (ltb-true _ _ (sym w.if-is_before.ensures)) in
          rw (w.top-inside-is, w.put_into.ensures.rows) (sym (insert_to_left x s h))
      | else-is_before w ↦
          let h : row_rank c.top.inside.row ≤ row_rank x = rw (c.deref-in-Some.ensures, ← c.top.view_is) at (ltb-false _ _ (sym w.if-is_before.ensures)) in
          rw (w.top-inside-is, w.put_into-else-is_before.ensures.rows) (sym (insert_to_right x s h))
    ]

pub rejoin-requires-clause-ordered : goal.rejoin-requires-clause-ordered
rejoin-requires-clause-ordered g t c =
    let x = c.args.node.value.row in
    let s = split_of (ap link_rows c.in-Some.is ∙ sym (ap (λ p. p.rows) (c.top.view_is ∙ c.deref_mut-top.ensures.value))) refl c.top.invariant.ordered in
    let o = ordered_after x c.requires.numbered s c.requires.free in
    elim c.if-is_before.branch [
      | then-is_before w ↦
          let h : row_rank x < row_rank c.top.inside.row = rw (c.deref-in-Some.ensures, ← c.top.view_is) at (ltb-true _ _ (sym w.if-is_before.ensures)) in
          rw (c.take-left.ensures.value, c.take-left.ensures.after, c.take-right.ensures.value, c.take-right.ensures.after, w.top-inside-is, w.put_into.ensures.rows, ← insert_to_left x s h) o
      | else-is_before w ↦
          let h : row_rank c.top.inside.row ≤ row_rank x = rw (c.deref-in-Some.ensures, ← c.top.view_is) at (ltb-false _ _ (sym w.if-is_before.ensures)) in
          rw (c.take-left.ensures.value, c.take-left.ensures.after, c.take-right.ensures.value, c.take-right.ensures.after, w.top-inside-is, w.put_into-else-is_before.ensures.rows, ← insert_to_right x s h) o
    ]

pub returns-else-side-top-clause-rows : goal.returns-else-side-top-clause-rows
returns-else-side-top-clause-rows g t c =
    let x = c.args.node.value.row in
    let s = split_of (ap link_rows c.in-Some.is ∙ sym (ap (λ p. p.rows) (c.top.view_is ∙ c.deref_mut-top.ensures.value))) refl c.top.invariant.ordered in
    elim c.if-is_before.branch [
      | then-is_before w ↦
          let h : row_rank x < row_rank c.top.inside.row = rw (c.deref-in-Some.ensures, ← c.top.view_is) at (ltb-true _ _ (sym w.if-is_before.ensures)) in
          rw (c.rejoin.ensures.rows, c.take-left.ensures.value, c.take-left.ensures.after, c.take-right.ensures.value, c.take-right.ensures.after, w.top-inside-is, w.put_into.ensures.rows) (sym (insert_to_left x s h))
      | else-is_before w ↦
          let h : row_rank c.top.inside.row ≤ row_rank x = rw (c.deref-in-Some.ensures, ← c.top.view_is) at (ltb-false _ _ (sym w.if-is_before.ensures)) in
          rw (c.rejoin.ensures.rows, c.take-left.ensures.value, c.take-left.ensures.after, c.take-right.ensures.value, c.take-right.ensures.after, w.top-inside-is, w.put_into-else-is_before.ensures.rows) (sym (insert_to_right x s h))
    ]

pub returns-then-side-top-clause-each : goal.returns-then-side-top-clause-each
returns-then-side-top-clause-each g t c = search rules

pub returns-else-side-top-clause-each : goal.returns-else-side-top-clause-each
returns-else-side-top-clause-each g t c = search rules
