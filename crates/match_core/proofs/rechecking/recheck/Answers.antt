use Rattle.venue_words.specs.Priority.{in_priority}
use Rattle.eager_meaning.specs.Recheck.{recheck}
use Rattle.eager_meaning.specs.Work.{examined_in_sweep, examined_in_recheck}
use Rattle.match_core.specs.Sweeping.{sides_of}
use Rattle.match_core.proofs.Rechecks.{IsRechecked, rechecked, work_of_recheck, cost_of_two, two_widths, few_of_two}
use Rattle.match_core.proofs.rechecking.recheck.Given.{Over}
use Rattle.match_core.proofs.rechecking.recheck.Goals as goal

module _ (g : Over) (c : goal.After-sweep-2 g) where
  both : IsRechecked c.args.scratch.now.fills.items (g.S.SideBook.state c.args.buys.now).rows (g.S.SideBook.state c.args.sells.now).rows (g.S.SideBook.state c.sweep-2.new.own).rows (g.S.SideBook.state c.sweep-2.new.other).rows c.sweep-2.new.scratch.fills.items
  both = rechecked c.args.scratch.now.fills.items c.sweep.new.scratch.fills.items c.sweep-2.new.scratch.fills.items (g.S.SideBook.state c.args.buys.now).rows (g.S.SideBook.state c.args.sells.now).rows (g.S.SideBook.state c.sweep.new.own).rows (g.S.SideBook.state c.sweep.new.other).rows (g.S.SideBook.state c.sweep-2.new.own).rows (g.S.SideBook.state c.sweep-2.new.other).rows c.sweep.ensures.swept c.sweep-2.ensures.swept

pub returns-clause-buys : goal.returns-clause-buys
returns-clause-buys g c = (both g c).buys_are

pub returns-clause-sells : goal.returns-clause-sells
returns-clause-sells g c = (both g c).sells_are

pub returns-clause-fills : goal.returns-clause-fills
returns-clause-fills g c = (both g c).fills_are

pub returns-clause-few : goal.returns-clause-few
returns-clause-few g c = few_of_two c.args.scratch.now.fills.items (recheck (g.S.SideBook.state c.args.buys.now).rows (g.S.SideBook.state c.args.sells.now).rows).fills c.sweep-2.new.scratch.fills.items _ _ _ _ _ _ _ (both g c).fills_are c.sweep.ensures.few c.sweep-2.ensures.few

pub returns-clause-most : goal.returns-clause-most
returns-clause-most g c =
    let second = rw (c.sweep.ensures.width, c.sweep.ensures.other_width) at c.sweep-2.ensures.most in
    let steps = two_widths (g.S.SideBook.width c.args.buys.now) (g.S.SideBook.width c.args.sells.now) _ _ _ second in
    cost_of_two (g.S.SideBook.width c.args.buys.now) (g.S.SideBook.width c.args.sells.now) (examined_in_sweep (in_priority (g.S.SideBook.state c.args.buys.now).rows) (sides_of (g.S.SideBook.state c.args.buys.now).rows (g.S.SideBook.state c.args.sells.now).rows c.args.scratch.now)) (examined_in_sweep (in_priority (g.S.SideBook.state c.sweep.new.other).rows) (sides_of (g.S.SideBook.state c.sweep.new.other).rows (g.S.SideBook.state c.sweep.new.own).rows c.sweep.new.scratch)) (examined_in_recheck (g.S.SideBook.state c.args.buys.now).rows (g.S.SideBook.state c.args.sells.now).rows) c.args.steps.now c.sweep.new.steps c.sweep-2.new.steps
    (work_of_recheck c.args.scratch.now.fills.items c.sweep.new.scratch.fills.items (g.S.SideBook.state c.args.buys.now).rows (g.S.SideBook.state c.args.sells.now).rows (g.S.SideBook.state c.sweep.new.own).rows (g.S.SideBook.state c.sweep.new.other).rows c.sweep.ensures.swept)
    c.sweep.ensures.most steps
