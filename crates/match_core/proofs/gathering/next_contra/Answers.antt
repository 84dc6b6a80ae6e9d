use Rattle.std.proofs.Common.{◌≡◌, true, sym, ◌∙◌, ap}
use Rattle.venue_words.specs.Price.{values_cross}
use Rattle.peg_groups.specs.BestValue.{best_value}
use Rattle.match_core.proofs.Looks.{look_blocks, look_none, next_of, always_some}
use Rattle.match_core.proofs.gathering.next_contra.Given.{Over}
use Rattle.match_core.proofs.gathering.next_contra.Goals as goal

pub returns-then-not-values_cross-clause-none : goal.returns-then-not-values_cross-clause-none
returns-then-not-values_cross-clause-none g c = λ _. look_none c.args.t.now (g.S.SideBook.state c.args.other.now).rows (ap (values_cross c.args.t.now.value) (sym c.best_value.ensures.value) ∙ sym c.if-not-values_cross.ensures)

pub returns-then-not-values_cross-clause-blocked : goal.returns-then-not-values_cross-clause-blocked
returns-then-not-values_cross-clause-blocked g c = λ _. look_blocks c.args.t.now (g.S.SideBook.state c.args.other.now).rows (ap (values_cross c.args.t.now.value) (sym c.best_value.ensures.value) ∙ sym c.if-not-values_cross.ensures)

module _ (g : Over) (c : goal.After-take_best g) where
  does : values_cross c.args.t.now.value (best_value (g.S.SideBook.state c.args.other.now).rows) ≡ true
  does = ap (values_cross c.args.t.now.value) (sym c.best_value.ensures.value) ∙ sym c.if-not-values_cross.ensures

pub returns-clause-next : goal.returns-clause-next
returns-clause-next g c = next_of c.args.t.now (g.S.SideBook.state c.args.other.now) (g.S.SideBook.state c.take_best.new.self) c.take_best.result (does g c) c.take_best.ensures.by_entry c.take_best.ensures.best c.take_best.ensures.state

pub returns-clause-none : goal.returns-clause-none
returns-clause-none g c = λ none. absurd (always_some c.args.t.now.value (g.S.SideBook.state c.args.other.now).rows (does g c) (c.take_best.ensures.none none))

pub returns-clause-blocked : goal.returns-clause-blocked
returns-clause-blocked g c = λ none. absurd (always_some c.args.t.now.value (g.S.SideBook.state c.args.other.now).rows (does g c) (c.take_best.ensures.none none))

pub returns-clause-most_none : goal.returns-clause-most_none
returns-clause-most_none g c = λ none. absurd (always_some c.args.t.now.value (g.S.SideBook.state c.args.other.now).rows (does g c) (c.take_best.ensures.none none))
