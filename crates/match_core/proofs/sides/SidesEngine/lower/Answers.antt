use Rattle.std.proofs.Common.{sym}
use Rattle.match_core.proofs.Changes.{leaves_absent}
use Rattle.match_core.proofs.SideRows.{rests_buy, rests_sell, sides_lower_buy, sides_lower_sell}
use Rattle.match_core.proofs.sides.SidesEngine.lower.Goals as goal

pub lower_in-requires : goal.lower_in-requires
lower_in-requires g c =
    let rests = rw (← c.self.view_is) at c.requires.rests in
    let one = rests_buy c.self.inside.latest (g.S.SideBook.state c.self.inside.buys).rows (g.S.SideBook.state c.self.inside.sells).rows c.args.row.now c.self.invariant.0.rows rests c.in-Buy.is in
    record { held = (rests.found, one.held) }

pub invariant_of-self : goal.invariant_of-self
invariant_of-self g c = (sides_lower_buy c.self.inside.best c.self.inside.latest c.args.row.now.entry c.args.leaves (g.S.SideBook.state c.self.inside.buys) (g.S.SideBook.state c.self.inside.sells) (g.S.SideBook.state c.lower_in.new.side) c.requires.shares c.self.invariant.0 c.lower_in.ensures.left c.lower_in.ensures.best c.lower_in.ensures.event, c.self.invariant.1, c.self.invariant.2)

pub returns-in-Buy-clause-sells : goal.returns-in-Buy-clause-sells
returns-in-Buy-clause-sells g c =
    let rests = rw (← c.self.view_is) at c.requires.rests in
    let one = rests_buy c.self.inside.latest (g.S.SideBook.state c.self.inside.buys).rows (g.S.SideBook.state c.self.inside.sells).rows c.args.row.now c.self.invariant.0.rows rests c.in-Buy.is in
    rw (← c.self.view_is) (sym (leaves_absent c.args.row.now.entry c.args.leaves (g.S.SideBook.state c.self.inside.sells).rows one.absent))

pub lower_in-requires-in-Sell : goal.lower_in-requires-in-Sell
lower_in-requires-in-Sell g c =
    let rests = rw (← c.self.view_is) at c.requires.rests in
    let one = rests_sell c.self.inside.latest (g.S.SideBook.state c.self.inside.buys).rows (g.S.SideBook.state c.self.inside.sells).rows c.args.row.now c.self.invariant.0.rows rests c.in-Sell.is in
    record { held = (rests.found, one.held) }

pub invariant_of-self-in-Sell : goal.invariant_of-self-in-Sell
invariant_of-self-in-Sell g c = (sides_lower_sell c.self.inside.best c.self.inside.latest c.args.row.now.entry c.args.leaves (g.S.SideBook.state c.self.inside.buys) (g.S.SideBook.state c.self.inside.sells) (g.S.SideBook.state c.lower_in-in-Sell.new.side) c.requires.shares c.self.invariant.0 c.lower_in-in-Sell.ensures.left c.lower_in-in-Sell.ensures.best c.lower_in-in-Sell.ensures.event, c.self.invariant.1, c.self.invariant.2)

pub returns-in-Sell-clause-buys : goal.returns-in-Sell-clause-buys
returns-in-Sell-clause-buys g c =
    let rests = rw (← c.self.view_is) at c.requires.rests in
    let one = rests_sell c.self.inside.latest (g.S.SideBook.state c.self.inside.buys).rows (g.S.SideBook.state c.self.inside.sells).rows c.args.row.now c.self.invariant.0.rows rests c.in-Sell.is in
    rw (← c.self.view_is) (sym (leaves_absent c.args.row.now.entry c.args.leaves (g.S.SideBook.state c.self.inside.buys).rows one.absent))
