use Rattle.std.proofs.Common.{refl, ap, sym, ◌∙◌, arith}
use Rattle.limit_tree.specs.Link.{link_rows}
use Rattle.limit_tree.proofs.Inserting.{split_of}
use Rattle.limit_tree.proofs.Finding.{greatest_in_front, greatest_is_row, greatest_in_back}
use Rattle.limit_tree.proofs.search.+greatest_cap.Goals as goal

pub returns-then-value-top-clause-found : goal.returns-then-value-top-clause-found
returns-then-value-top-clause-found g t c =
    let s = split_of (ap link_rows c.in-Some.is ∙ sym (ap (λ p. p.rows) (c.top.view_is ∙ c.deref-top.ensures))) refl c.top.invariant.ordered in
    rw s.is (greatest_in_front c.args.value _ _ _ _ s.ordered (omega (arith, c.top.invariant.cap)) c.greatest_cap.ensures.found)

pub returns-in-None-greatest_cap-clause-found : goal.returns-in-None-greatest_cap-clause-found
returns-in-None-greatest_cap-clause-found g t c =
    let s = split_of (ap link_rows c.in-Some.is ∙ sym (ap (λ p. p.rows) (c.top.view_is ∙ c.deref-top.ensures))) refl c.top.invariant.ordered in
    rw (s.is, c.top.invariant.cap) (greatest_is_row c.args.value _ _ _ s.ordered (omega (arith, c.top.invariant.cap)) c.in-None-greatest_cap.ensures.found)

pub returns-in-Some-greatest_cap-clause-found : goal.returns-in-Some-greatest_cap-clause-found
returns-in-Some-greatest_cap-clause-found g t c =
    let s = split_of (ap link_rows c.in-Some.is ∙ sym (ap (λ p. p.rows) (c.top.view_is ∙ c.deref-top.ensures))) refl c.top.invariant.ordered in
    rw s.is (greatest_in_back c.args.value _ _ _ _ s.ordered c.in-Some-greatest_cap.ensures.found)
