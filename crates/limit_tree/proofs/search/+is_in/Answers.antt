use Rattle.std.proofs.Common.{refl, ap, sym, ◌∙◌}
use Rattle.limit_tree.specs.Link.{link_rows}
use Rattle.limit_tree.proofs.Inserting.{split_of}
use Rattle.limit_tree.proofs.Searching.{goes_left, goes_right, stays_here}
use Rattle.limit_tree.proofs.search.+is_in.Goals as goal

pub returns-in-Less-clause-held : goal.returns-in-Less-clause-held
returns-in-Less-clause-held g t c =
    let s = split_of (ap link_rows c.in-Some.is ∙ sym (ap (λ p. p.rows) (c.top.view_is ∙ c.deref-top.ensures))) refl c.top.invariant.ordered in
    c.is_in.ensures.held ∙ sym (goes_left c.args.cap c.args.entry s (rw (← c.top.view_is) at c.in-Less.ensures)).held

pub returns-in-Equal-clause-held : goal.returns-in-Equal-clause-held
returns-in-Equal-clause-held g t c =
    let s = split_of (ap link_rows c.in-Some.is ∙ sym (ap (λ p. p.rows) (c.top.view_is ∙ c.deref-top.ensures))) refl c.top.invariant.ordered in
    sym (stays_here c.args.cap c.args.entry s (rw (← c.top.view_is) at c.in-Equal.ensures)).held

pub returns-in-Greater-clause-held : goal.returns-in-Greater-clause-held
returns-in-Greater-clause-held g t c =
    let s = split_of (ap link_rows c.in-Some.is ∙ sym (ap (λ p. p.rows) (c.top.view_is ∙ c.deref-top.ensures))) refl c.top.invariant.ordered in
    c.is_in-in-Greater.ensures.held ∙ sym (goes_right c.args.cap c.args.entry s (rw (← c.top.view_is) at c.in-Greater.ensures)).held
