use Rattle.std.proofs.Common.{◌≡◌, ◌≢◌, ◌<◌, ◌≤◌, refl, ap, sym, ◌∙◌, arith}
use Rattle.venue_words.specs.ListLaws.{all_weaken}
use Rattle.venue_words.specs.declared.row.Row.{Row}
use Rattle.limit_tree.specs.Link.{link_rows}
use Rattle.limit_tree.proofs.Inserting.{split_of}
use Rattle.limit_tree.proofs.Finding.{entry_behind, entry_before, entry_at_row, entry_found_before, entry_found_behind, entry_wanted_behind, entry_below_back, caps_before, caps_behind}
use Rattle.limit_tree.proofs.search.+cap_above.Goals as goal

pub cap_above-requires : goal.cap_above-requires
cap_above-requires g t c κs within =
    let s = split_of (ap link_rows c.in-Some.is ∙ sym (ap (λ p. p.rows) (c.top.view_is ∙ c.deref-top.ensures))) refl c.top.invariant.ordered in
    let below : c.top.inside.row.cap ≤ c.args.value = omega (arith, c.top.invariant.cap) in
    let wanted = rw s.is at c.requires in
    (omega (arith, s.shorter.1), (within, entry_behind (λ cap. c.args.value < cap) _ _ _ _ (all_weaken {A = Row} (λ r. r.cap ≤ c.top.inside.row.cap) (λ r. c.args.value < r.cap → ⊥) (λ r h e. omega arith) _ (caps_before _ _ _ s.ordered)) (λ e. omega arith) (record { cap = wanted.0; is = wanted.1 })))

pub has_least-requires : goal.has_least-requires
has_least-requires g t c =
    let s = split_of (ap link_rows c.in-Some.is ∙ sym (ap (λ p. p.rows) (c.top.view_is ∙ c.deref-top.ensures))) refl c.top.invariant.ordered in
    let above : c.args.value < c.top.inside.row.cap = omega (arith, c.top.invariant.cap) in
    let wanted = rw s.is at c.requires in
    entry_below_back (λ cap. c.args.value < cap) _ _ _ _ (all_weaken {A = Row} (λ r. c.top.inside.row.cap ≤ r.cap) (λ r. c.args.value < r.cap) (λ r h. omega arith) _ (caps_behind _ _ _ s.ordered)) (record { cap = wanted.0; is = wanted.1 })

pub cap_above-requires-then-has_least : goal.cap_above-requires-then-has_least
cap_above-requires-then-has_least g t c κs within =
    let s = split_of (ap link_rows c.in-Some.is ∙ sym (ap (λ p. p.rows) (c.top.view_is ∙ c.deref-top.ensures))) refl c.top.invariant.ordered in
    let above : c.args.value < c.top.inside.row.cap = omega (arith, c.top.invariant.cap) in
    let wanted = rw s.is at c.requires in
    let held = c.if-has_least.ensures in
    (omega (arith, s.shorter.1), (within, entry_wanted_behind (λ cap. c.args.value < cap) _ _ _ _ held.0 (all_weaken {A = Row} (λ r. c.top.inside.row.cap ≤ r.cap) (λ r. c.args.value < r.cap) (λ r h. omega arith) _ (caps_behind _ _ _ s.ordered)) (record { cap = wanted.0; is = wanted.1 }) held.1))

pub cap_above-requires-else-has_least : goal.cap_above-requires-else-has_least
cap_above-requires-else-has_least g t c κs within =
    let s = split_of (ap link_rows c.in-Some.is ∙ sym (ap (λ p. p.rows) (c.top.view_is ∙ c.deref-top.ensures))) refl c.top.invariant.ordered in
    let wanted = rw s.is at c.requires in
    let other : c.top.inside.row.entry ≢ c.args.entry = omega (arith, c.top.invariant.entry) in
    (omega (arith, s.shorter.0), (within, entry_before (λ cap. c.args.value < cap) _ _ _ _ other c.if-has_least.ensures (record { cap = wanted.0; is = wanted.1 })))

pub returns-then-top-value-clause-found : goal.returns-then-top-value-clause-found
returns-then-top-value-clause-found g t c =
    let s = split_of (ap link_rows c.in-Some.is ∙ sym (ap (λ p. p.rows) (c.top.view_is ∙ c.deref-top.ensures))) refl c.top.invariant.ordered in
    let wanted = rw s.is at c.requires in
    rw s.is (entry_found_behind (λ cap. c.args.value < cap) _ _ _ _ _ (record { cap = wanted.0; is = wanted.1 }) c.cap_above.ensures.found)

pub returns-then-top-entry-clause-found : goal.returns-then-top-entry-clause-found
returns-then-top-entry-clause-found g t c =
    let s = split_of (ap link_rows c.in-Some.is ∙ sym (ap (λ p. p.rows) (c.top.view_is ∙ c.deref-top.ensures))) refl c.top.invariant.ordered in
    let above : c.args.value < c.top.inside.row.cap = omega (arith, c.top.invariant.cap) in
    let e : c.args.entry ≡ c.top.inside.row.entry = omega (arith, c.top.invariant.entry) in
    let wanted = rw (s.is, e) at c.requires in
    rw (s.is, c.top.invariant.cap, e) (entry_at_row (λ cap. c.args.value < cap) _ _ _ above (record { cap = wanted.0; is = wanted.1 }))

pub returns-then-has_least-clause-found : goal.returns-then-has_least-clause-found
returns-then-has_least-clause-found g t c =
    let s = split_of (ap link_rows c.in-Some.is ∙ sym (ap (λ p. p.rows) (c.top.view_is ∙ c.deref-top.ensures))) refl c.top.invariant.ordered in
    let wanted = rw s.is at c.requires in
    rw s.is (entry_found_behind (λ cap. c.args.value < cap) _ _ _ _ _ (record { cap = wanted.0; is = wanted.1 }) c.cap_above-then-has_least.ensures.found)

pub returns-else-has_least-clause-found : goal.returns-else-has_least-clause-found
returns-else-has_least-clause-found g t c =
    let s = split_of (ap link_rows c.in-Some.is ∙ sym (ap (λ p. p.rows) (c.top.view_is ∙ c.deref-top.ensures))) refl c.top.invariant.ordered in
    let wanted = rw s.is at c.requires in
    rw s.is (entry_found_before (λ cap. c.args.value < cap) _ _ _ _ _ (record { cap = wanted.0; is = wanted.1 }) c.cap_above-else-has_least.ensures.found)
