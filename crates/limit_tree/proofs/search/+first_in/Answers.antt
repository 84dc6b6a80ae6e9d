use Rattle.std.proofs.Common.{◌≡◌, ◌<◌, ◌≤◌, refl, ap, sym, ◌∙◌, arith}
use Rattle.venue_words.specs.declared.row.Row.{Row}
use Rattle.venue_words.specs.ListLaws.{all_weaken}
use Rattle.limit_tree.specs.Link.{link_rows}
use Rattle.limit_tree.proofs.Inserting.{split_of}
use Rattle.limit_tree.proofs.Finding.{least_in_back, least_in_front, first_is_row, first_in_front, caps_before, caps_behind}
use Rattle.limit_tree.proofs.search.+first_in.Goals as goal

pub returns-then-top-value-clause-found : goal.returns-then-top-value-clause-found
returns-then-top-value-clause-found g t c =
    let s = split_of (ap link_rows c.in-Some.is ∙ sym (ap (λ p. p.rows) (c.top.view_is ∙ c.deref-top.ensures))) refl c.top.invariant.ordered in
    let below : c.top.inside.row.cap < c.args.value = omega (arith, c.top.invariant.cap) in
    rw s.is (least_in_back (λ cap. cap ≡ c.args.value) _ _ _ _ (all_weaken {A = Row} (λ r. r.cap ≤ c.top.inside.row.cap) (λ r. r.cap ≡ c.args.value → ⊥) (λ r h e. omega arith) _ (caps_before _ _ _ s.ordered)) (λ e. omega arith) c.first_in.ensures.found)

pub returns-then-value-top-clause-found : goal.returns-then-value-top-clause-found
returns-then-value-top-clause-found g t c =
    let s = split_of (ap link_rows c.in-Some.is ∙ sym (ap (λ p. p.rows) (c.top.view_is ∙ c.deref-top.ensures))) refl c.top.invariant.ordered in
    let above : c.args.value < c.top.inside.row.cap = omega (arith, c.top.invariant.cap) in
    rw s.is (least_in_front (λ cap. cap ≡ c.args.value) _ _ _ _ (λ e. omega arith) (all_weaken {A = Row} (λ r. c.top.inside.row.cap ≤ r.cap) (λ r. r.cap ≡ c.args.value → ⊥) (λ r h e. omega arith) _ (caps_behind _ _ _ s.ordered)) c.first_in-then-value-top.ensures.found)

pub returns-in-None-first_in-clause-found : goal.returns-in-None-first_in-clause-found
returns-in-None-first_in-clause-found g t c =
    let s = split_of (ap link_rows c.in-Some.is ∙ sym (ap (λ p. p.rows) (c.top.view_is ∙ c.deref-top.ensures))) refl c.top.invariant.ordered in
    let v : c.args.value ≡ c.top.inside.row.cap = omega (arith, c.top.invariant.cap) in
    rw (s.is, v, c.top.invariant.cap, c.top.invariant.entry) (first_is_row _ _ _ s.ordered (rw v at c.in-None-first_in.ensures.found))

pub returns-in-Some-first_in-clause-found : goal.returns-in-Some-first_in-clause-found
returns-in-Some-first_in-clause-found g t c =
    let s = split_of (ap link_rows c.in-Some.is ∙ sym (ap (λ p. p.rows) (c.top.view_is ∙ c.deref-top.ensures))) refl c.top.invariant.ordered in
    let v : c.args.value ≡ c.top.inside.row.cap = omega (arith, c.top.invariant.cap) in
    rw (s.is, v) (first_in_front _ _ _ _ s.ordered (rw v at c.in-Some-first_in.ensures.found))
