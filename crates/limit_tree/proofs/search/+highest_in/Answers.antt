use Rattle.std.proofs.Common.{refl, ap, sym, ◌∙◌, arith}
use Rattle.limit_tree.specs.Link.{link_rows}
use Rattle.limit_tree.proofs.Highest.{highest_behind}
use Rattle.limit_tree.proofs.Inserting.{split_of}
use Rattle.limit_tree.proofs.search.+highest_in.Goals as goal

pub returns-in-Some-clause-highest : goal.returns-in-Some-clause-highest
returns-in-Some-clause-highest g t c =
    let s = split_of (ap link_rows c.in-Some.is ∙ sym (ap (λ p. p.rows) (c.top.view_is ∙ c.deref-top.ensures))) refl c.top.invariant.ordered in
    rw s.is (omega (arith, highest_behind _ _ _ s.ordered, c.top.invariant.cap, c.highest_in.ensures.highest, c.max.ensures))
