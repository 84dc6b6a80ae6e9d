use Rattle.std.proofs.Common.{◌≡◌, ◌<◌, ◌≤◌, ◌∷◌, min, refl, ap, sym, ◌∙◌, arith}
use Rattle.venue_words.specs.declared.row.Row.{Row}
use Rattle.venue_words.specs.ListLaws.{all_weaken}
use Rattle.limit_tree.specs.Link.{link_rows}
use Rattle.limit_tree.specs.Order.{least_entry}
use Rattle.limit_tree.proofs.Inserting.{split_of}
use Rattle.limit_tree.proofs.Finding.{entry_in_back, entry_from_here, entry_from_both, caps_before, caps_behind}
use Rattle.limit_tree.proofs.search.+least_above.Goals as goal

pub returns-then-top-value-clause-found : goal.returns-then-top-value-clause-found
returns-then-top-value-clause-found g t c =
    let s = split_of (ap link_rows c.in-Some.is ∙ sym (ap (λ p. p.rows) (c.top.view_is ∙ c.deref-top.ensures))) refl c.top.invariant.ordered in
    let below : c.top.inside.row.cap ≤ c.args.value = omega (arith, c.top.invariant.cap) in
    rw s.is (entry_in_back (λ cap. c.args.value < cap) _ _ _ _ (all_weaken {A = Row} (λ r. r.cap ≤ c.top.inside.row.cap) (λ r. c.args.value < r.cap → ⊥) (λ r h e. omega arith) _ (caps_before _ _ _ s.ordered)) (λ e. omega arith) c.least_above.ensures.found)

pub returns-in-None-least_above-clause-found : goal.returns-in-None-least_above-clause-found
returns-in-None-least_above-clause-found g t c =
    let s = split_of (ap link_rows c.in-Some.is ∙ sym (ap (λ p. p.rows) (c.top.view_is ∙ c.deref-top.ensures))) refl c.top.invariant.ordered in
    let above : c.args.value < c.top.inside.row.cap = omega (arith, c.top.invariant.cap) in
    let e : c.min-here.result ≡ least_entry (c.top.inside.row ∷ link_rows c.top.inside.right) = omega (arith, c.top.invariant.entry) in
    rw (s.is, e) (entry_from_here (λ cap. c.args.value < cap) _ _ _ s.ordered (above, all_weaken {A = Row} (λ r. c.top.inside.row.cap ≤ r.cap) (λ r. c.args.value < r.cap) (λ r h. omega arith) _ (caps_behind _ _ _ s.ordered)) c.in-None-least_above.ensures.found)

pub returns-in-Some-least_above-clause-found : goal.returns-in-Some-least_above-clause-found
returns-in-Some-least_above-clause-found g t c =
    let s = split_of (ap link_rows c.in-Some.is ∙ sym (ap (λ p. p.rows) (c.top.view_is ∙ c.deref-top.ensures))) refl c.top.invariant.ordered in
    let above : c.args.value < c.top.inside.row.cap = omega (arith, c.top.invariant.cap) in
    let e : c.min.result ≡ min c.in-Some-least_above.entry (least_entry (c.top.inside.row ∷ link_rows c.top.inside.right)) = omega (arith, c.top.invariant.entry) in
    let found = c.in-Some-least_above.ensures.found in
    rw (s.is, e) (entry_from_both (λ cap. c.args.value < cap) _ _ _ _ found.0 s.ordered (above, all_weaken {A = Row} (λ r. c.top.inside.row.cap ≤ r.cap) (λ r. c.args.value < r.cap) (λ r h. omega arith) _ (caps_behind _ _ _ s.ordered)) found.1)
