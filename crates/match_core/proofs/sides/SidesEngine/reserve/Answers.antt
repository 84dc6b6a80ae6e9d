use Rattle.std.specs.Prelude.{is_some, Result, Ok, Err, OnOk}
use Rattle.std.proofs.Common.{length, ap, ◌∙◌, arith}
use Rattle.peg_groups.specs.Side.{SideState}
use Rattle.match_core.proofs.KeyCounts.{width_most, width_same}
use Rattle.match_core.proofs.SideRows.{rows_fit}
use Rattle.match_core.proofs.sides.SidesEngine.reserve.Goals as goal

ok_if : {T E : Type 0} (r : Result T E) (P : Type 0) → P → OnOk r P
ok_if (Ok x) P p = p
ok_if (Err e) P p = tt

pub overflow_add-rows : goal.overflow_add-rows
overflow_add-rows g c = omega (arith, c.len.ensures, c.len-2.ensures, ap (λ (s : SideState). length s.rows) (c.reserve_both.ensures.buys ∙ c.narrow_both.ensures.buys), ap (λ (s : SideState). length s.rows) (c.reserve_both.ensures.sells ∙ c.narrow_both.ensures.sells), rows_fit c.self.inside.latest (g.S.SideBook.state c.self.inside.buys).rows (g.S.SideBook.state c.self.inside.sells).rows c.self.invariant.0.rows c.self.invariant.2)

pub returns-in-None-clause-width : goal.returns-in-None-clause-width
returns-in-None-clause-width g c = rw (← c.self.view_is) (width_most c.self.inside.latest (g.S.SideBook.state c.self.inside.buys).rows (g.S.SideBook.state c.self.inside.sells).rows (g.S.SideBook.width c.narrow_both.new.buys) (g.S.SideBook.width c.narrow_both.new.sells) (g.S.SideBook.width c.reserve_both.new.buys) (g.S.SideBook.width c.reserve_both.new.sells) c.self.invariant.0.rows c.narrow_both.ensures.buys_width c.narrow_both.ensures.sells_width c.reserve_both.ensures.width)

pub returns-in-None-clause-no_key : goal.returns-in-None-clause-no_key
returns-in-None-clause-no_key g c = λ h. rw (← c.self.view_is) (width_same c.self.inside.latest (g.S.SideBook.state c.self.inside.buys).rows (g.S.SideBook.state c.self.inside.sells).rows (g.S.SideBook.width c.narrow_both.new.buys) (g.S.SideBook.width c.narrow_both.new.sells) (g.S.SideBook.width c.reserve_both.new.buys) (g.S.SideBook.width c.reserve_both.new.sells) c.self.invariant.0.rows c.narrow_both.ensures.buys_width c.narrow_both.ensures.sells_width (c.reserve_both.ensures.no_key (ap is_some h)))

pub returns-in-Some-clause-width : goal.returns-in-Some-clause-width
returns-in-Some-clause-width g c = rw (← c.self.view_is) (ok_if c.make_spare.result _ (width_most c.self.inside.latest (g.S.SideBook.state c.self.inside.buys).rows (g.S.SideBook.state c.self.inside.sells).rows (g.S.SideBook.width c.narrow_both.new.buys) (g.S.SideBook.width c.narrow_both.new.sells) (g.S.SideBook.width c.reserve_both.new.buys) (g.S.SideBook.width c.reserve_both.new.sells) c.self.invariant.0.rows c.narrow_both.ensures.buys_width c.narrow_both.ensures.sells_width c.reserve_both.ensures.width))
