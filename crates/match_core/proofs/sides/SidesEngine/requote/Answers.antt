use Rattle.std.proofs.Common.{arith}
use Rattle.match_core.proofs.SideRows.{sides_requoted}
use Rattle.match_core.proofs.sides.SidesEngine.requote.Goals as goal

pub invariant_of-self : goal.invariant_of-self
invariant_of-self g c = (sides_requoted c.self.inside.best c.args.quote c.self.inside.latest c.args.event (g.S.SideBook.state c.self.inside.buys) (g.S.SideBook.state c.self.inside.sells) (g.S.SideBook.state c.requote_both.new.buys) (g.S.SideBook.state c.requote_both.new.sells) (rw (← c.self.view_is) at c.requires.later) c.self.invariant.0 c.requote_both.ensures.buys c.requote_both.ensures.sells c.requote_both.ensures.buys_best c.requote_both.ensures.sells_best c.requote_both.ensures.buys_event c.requote_both.ensures.sells_event, c.requote_both.ensures.clear, omega (arith, c.ranges.event))
