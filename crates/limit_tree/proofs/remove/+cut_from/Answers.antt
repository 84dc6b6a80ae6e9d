use Rattle.std.proofs.Common.{◌≡◌, ◌∷◌, ◌++◌, refl, ap, sym, ◌∙◌, arith}
use Rattle.limit_tree.specs.Link.{link_rows, link_height}
use Rattle.limit_tree.specs.Order.{without_row, least_entry}
use Rattle.limit_tree.proofs.Inserting.{split_of}
use Rattle.limit_tree.proofs.LeastEntry.{least_at}
use Rattle.limit_tree.proofs.Searching.{goes_left, goes_right, stays_here, ordered_cut}
use Rattle.limit_tree.proofs.remove.+cut_from.Goals as goal
use Rattle.limit_tree.proofs.remove.+cut_from.Goals.{in-Less, in-Greater}

pub join-requires-clause-ordered : goal.join-requires-clause-ordered
join-requires-clause-ordered g t c =
    let s = split_of (ap link_rows c.in-Some.is ∙ sym (ap (λ p. p.rows) (c.top.view_is ∙ c.deref_mut-top.ensures.value))) refl c.top.invariant.ordered in
    let h = stays_here c.args.cap c.args.entry s (rw (← c.top.view_is) at c.in-Equal.ensures) in
    rw (c.take-left.ensures.value, c.take-right.ensures.value, ← h.others) (ordered_cut c.args.cap c.args.entry s)

pub returns-in-Equal-clause-rows : goal.returns-in-Equal-clause-rows
returns-in-Equal-clause-rows g t c =
    let s = split_of (ap link_rows c.in-Some.is ∙ sym (ap (λ p. p.rows) (c.top.view_is ∙ c.deref_mut-top.ensures.value))) refl c.top.invariant.ordered in
    let h = stays_here c.args.cap c.args.entry s (rw (← c.top.view_is) at c.in-Equal.ensures) in
    rw (c.replace.ensures.after, c.join.ensures.rows, c.take-left.ensures.value, c.take-right.ensures.value) (sym h.others)

pub returns-in-Equal-clause-found : goal.returns-in-Equal-clause-found
returns-in-Equal-clause-found g t c =
    let s = split_of (ap link_rows c.in-Some.is ∙ sym (ap (λ p. p.rows) (c.top.view_is ∙ c.deref_mut-top.ensures.value))) refl c.top.invariant.ordered in
    let h = stays_here c.args.cap c.args.entry s (rw (← c.top.view_is) at c.in-Equal.ensures) in
    rw c.replace.ensures.value (sym h.found)

pub invariant_of-top-then-after-before : goal.invariant_of-top-then-after-before
invariant_of-top-then-after-before g t c =
    let s = split_of (ap link_rows c.in-Some.is ∙ sym (ap (λ p. p.rows) (c.top.view_is ∙ c.deref_mut-top.ensures.value))) refl c.top.invariant.ordered in
    let least : c.top.inside.least ≡ least_entry (link_rows c.args.link.now) = rw s.is c.top.invariant.least in
    elim c.match-place_of.branch [
      | in-Less w ↦
          let l = goes_left c.args.cap c.args.entry s (rw (← c.top.view_is) at w.in-Less.ensures) in
          let rows : link_rows w.cut_from-found.new.link ++ c.top.inside.row ∷ link_rows c.top.inside.right ≡ without_row c.args.cap c.args.entry (link_rows c.args.link.now) = rw w.cut_from-found.ensures.rows (sym l.others) in
          let same : link_height w.cut_from-found.new.link ≡ link_height c.top.inside.left = omega (arith, rw w.before-is at c.if-after-before.true, w.height_of.ensures.height, w.height_of-height.ensures.height) in
          rw w.top-inside-is (record {
            cap = c.top.invariant.cap;
            entry = c.top.invariant.entry;
            ordered = rw rows (ordered_cut c.args.cap c.args.entry s);
            least = least_at {now = c.least_without-top-inside.result} c.args.cap c.args.entry _ _ _ _ rows least c.top.invariant.entry (rw w.top-inside-is at c.least_without-top-inside.ensures.renewed) (rw w.top-inside-is at c.least_without-top-inside.ensures.kept);
            height = rw same c.top.invariant.height;
            balanced = rw same c.top.invariant.balanced;
            left_full = rw w.height_of.ensures.height at w.height_of.ensures.full;
            right_full = c.top.invariant.right_full;
          })
      | in-Greater w ↦
          let r = goes_right c.args.cap c.args.entry s (rw (← c.top.view_is) at w.in-Greater.ensures) in
          let rows : link_rows c.top.inside.left ++ c.top.inside.row ∷ link_rows w.cut_from-found-in-Greater.new.link ≡ without_row c.args.cap c.args.entry (link_rows c.args.link.now) = rw w.cut_from-found-in-Greater.ensures.rows (sym r.others) in
          let same : link_height w.cut_from-found-in-Greater.new.link ≡ link_height c.top.inside.right = omega (arith, rw w.before-is at c.if-after-before.true, w.height_of-in-Greater.ensures.height, w.height_of-height-in-Greater.ensures.height) in
          rw w.top-inside-is (record {
            cap = c.top.invariant.cap;
            entry = c.top.invariant.entry;
            ordered = rw rows (ordered_cut c.args.cap c.args.entry s);
            least = least_at {now = c.least_without-top-inside.result} c.args.cap c.args.entry _ _ _ _ rows least c.top.invariant.entry (rw w.top-inside-is at c.least_without-top-inside.ensures.renewed) (rw w.top-inside-is at c.least_without-top-inside.ensures.kept);
            height = rw same c.top.invariant.height;
            balanced = rw same c.top.invariant.balanced;
            left_full = c.top.invariant.left_full;
            right_full = rw w.height_of-in-Greater.ensures.height at w.height_of-in-Greater.ensures.full;
          })
    ]

pub returns-then-after-before-clause-rows : goal.returns-then-after-before-clause-rows
returns-then-after-before-clause-rows g t c =
    let s = split_of (ap link_rows c.in-Some.is ∙ sym (ap (λ p. p.rows) (c.top.view_is ∙ c.deref_mut-top.ensures.value))) refl c.top.invariant.ordered in
    elim c.match-place_of.branch [
      | in-Less w ↦
          let l = goes_left c.args.cap c.args.entry s (rw (← c.top.view_is) at w.in-Less.ensures) in
          rw (w.top-inside-is, w.cut_from-found.ensures.rows) (sym l.others)
      | in-Greater w ↦
          let r = goes_right c.args.cap c.args.entry s (rw (← c.top.view_is) at w.in-Greater.ensures) in
          rw (w.top-inside-is, w.cut_from-found-in-Greater.ensures.rows) (sym r.others)
    ]

pub returns-then-after-before-clause-found : goal.returns-then-after-before-clause-found
returns-then-after-before-clause-found g t c =
    let s = split_of (ap link_rows c.in-Some.is ∙ sym (ap (λ p. p.rows) (c.top.view_is ∙ c.deref_mut-top.ensures.value))) refl c.top.invariant.ordered in
    elim c.match-place_of.branch [
      | in-Less w ↦
          let l = goes_left c.args.cap c.args.entry s (rw (← c.top.view_is) at w.in-Less.ensures) in
          rw (w.before-is, l.found) w.cut_from-found.ensures.found
      | in-Greater w ↦
          let r = goes_right c.args.cap c.args.entry s (rw (← c.top.view_is) at w.in-Greater.ensures) in
          rw (w.before-is, r.found) w.cut_from-found-in-Greater.ensures.found
    ]

pub rejoin-requires-clause-ordered : goal.rejoin-requires-clause-ordered
rejoin-requires-clause-ordered g t c =
    let s = split_of (ap link_rows c.in-Some.is ∙ sym (ap (λ p. p.rows) (c.top.view_is ∙ c.deref_mut-top.ensures.value))) refl c.top.invariant.ordered in
    elim c.match-place_of.branch [
      | in-Less w ↦
          let l = goes_left c.args.cap c.args.entry s (rw (← c.top.view_is) at w.in-Less.ensures) in
          rw (c.take-left-in-Some.ensures.value, c.take-left-in-Some.ensures.after, c.take-right-in-Some.ensures.value, c.take-right-in-Some.ensures.after, w.top-inside-is, w.cut_from-found.ensures.rows, ← l.others) (ordered_cut c.args.cap c.args.entry s)
      | in-Greater w ↦
          let r = goes_right c.args.cap c.args.entry s (rw (← c.top.view_is) at w.in-Greater.ensures) in
          rw (c.take-left-in-Some.ensures.value, c.take-left-in-Some.ensures.after, c.take-right-in-Some.ensures.value, c.take-right-in-Some.ensures.after, w.top-inside-is, w.cut_from-found-in-Greater.ensures.rows, ← r.others) (ordered_cut c.args.cap c.args.entry s)
    ]

pub returns-else-after-before-clause-rows : goal.returns-else-after-before-clause-rows
returns-else-after-before-clause-rows g t c =
    let s = split_of (ap link_rows c.in-Some.is ∙ sym (ap (λ p. p.rows) (c.top.view_is ∙ c.deref_mut-top.ensures.value))) refl c.top.invariant.ordered in
    elim c.match-place_of.branch [
      | in-Less w ↦
          let l = goes_left c.args.cap c.args.entry s (rw (← c.top.view_is) at w.in-Less.ensures) in
          rw (c.rejoin.ensures.rows, c.take-left-in-Some.ensures.value, c.take-left-in-Some.ensures.after, c.take-right-in-Some.ensures.value, c.take-right-in-Some.ensures.after, w.top-inside-is, w.cut_from-found.ensures.rows) (sym l.others)
      | in-Greater w ↦
          let r = goes_right c.args.cap c.args.entry s (rw (← c.top.view_is) at w.in-Greater.ensures) in
          rw (c.rejoin.ensures.rows, c.take-left-in-Some.ensures.value, c.take-left-in-Some.ensures.after, c.take-right-in-Some.ensures.value, c.take-right-in-Some.ensures.after, w.top-inside-is, w.cut_from-found-in-Greater.ensures.rows) (sym r.others)
    ]

pub returns-else-after-before-clause-found : goal.returns-else-after-before-clause-found
returns-else-after-before-clause-found g t c =
    let s = split_of (ap link_rows c.in-Some.is ∙ sym (ap (λ p. p.rows) (c.top.view_is ∙ c.deref_mut-top.ensures.value))) refl c.top.invariant.ordered in
    elim c.match-place_of.branch [
      | in-Less w ↦
          let l = goes_left c.args.cap c.args.entry s (rw (← c.top.view_is) at w.in-Less.ensures) in
          rw (w.before-is, l.found) w.cut_from-found.ensures.found
      | in-Greater w ↦
          let r = goes_right c.args.cap c.args.entry s (rw (← c.top.view_is) at w.in-Greater.ensures) in
          rw (w.before-is, r.found) w.cut_from-found-in-Greater.ensures.found
    ]
