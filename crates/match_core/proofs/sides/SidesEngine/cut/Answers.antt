use Rattle.std.proofs.Common.{length, sym, ap, arith}
use Rattle.match_core.proofs.Changes.{without_absent}
use Rattle.match_core.proofs.SideRows.{rests_buy, rests_sell, sides_cut_buy, sides_cut_sell, without_fewer, ready_fewer, if_some_map, on_buys, on_sells}
use Rattle.match_core.proofs.sides.SidesEngine.cut.Goals as goal

pub cut_in-requires : goal.cut_in-requires
cut_in-requires g c =
    let rests = rw (← c.self.view_is) at c.requires.rests in
    let one = rests_buy c.self.inside.latest (g.S.SideBook.state c.self.inside.buys).rows (g.S.SideBook.state c.self.inside.sells).rows c.args.row.now c.self.invariant.0.rows rests c.in-Buy.is in
    record { held = (rests.found, one.held) }

pub invariant_of-self : goal.invariant_of-self
invariant_of-self g c = (sides_cut_buy c.self.inside.best c.self.inside.latest c.args.row.now.entry (g.S.SideBook.state c.self.inside.buys) (g.S.SideBook.state c.self.inside.sells) (g.S.SideBook.state c.cut_in.new.side) c.self.invariant.0 c.cut_in.ensures.left c.cut_in.ensures.best c.cut_in.ensures.event, c.self.invariant.1, c.self.invariant.2)

pub returns-in-Buy-clause-sells : goal.returns-in-Buy-clause-sells
returns-in-Buy-clause-sells g c =
    let rests = rw (← c.self.view_is) at c.requires.rests in
    let one = rests_buy c.self.inside.latest (g.S.SideBook.state c.self.inside.buys).rows (g.S.SideBook.state c.self.inside.sells).rows c.args.row.now c.self.invariant.0.rows rests c.in-Buy.is in
    rw (← c.self.view_is) (sym (without_absent c.args.row.now.entry (g.S.SideBook.state c.self.inside.sells).rows one.absent))

pub returns-in-Buy-clause-ready : goal.returns-in-Buy-clause-ready
returns-in-Buy-clause-ready g c =
    let fewer = without_fewer c.args.row.now.entry (g.S.SideBook.state c.self.inside.buys).rows in
    let left = ap length c.cut_in.ensures.left in
    rw (← c.self.view_is) (λ key h. (ready_fewer _ _ c.self.inside.scratch (omega (arith, fewer, left)) h.0, (c.cut_in.ensures.moves h.1.0, h.1.1), if_some_map _ _ (λ k p. (p.0, on_buys k.side _ _ _ (c.cut_in.ensures.rows k) p.1)) key h.2))

pub cut_in-requires-in-Sell : goal.cut_in-requires-in-Sell
cut_in-requires-in-Sell g c =
    let rests = rw (← c.self.view_is) at c.requires.rests in
    let one = rests_sell c.self.inside.latest (g.S.SideBook.state c.self.inside.buys).rows (g.S.SideBook.state c.self.inside.sells).rows c.args.row.now c.self.invariant.0.rows rests c.in-Sell.is in
    record { held = (rests.found, one.held) }

pub invariant_of-self-in-Sell : goal.invariant_of-self-in-Sell
invariant_of-self-in-Sell g c = (sides_cut_sell c.self.inside.best c.self.inside.latest c.args.row.now.entry (g.S.SideBook.state c.self.inside.buys) (g.S.SideBook.state c.self.inside.sells) (g.S.SideBook.state c.cut_in-in-Sell.new.side) c.self.invariant.0 c.cut_in-in-Sell.ensures.left c.cut_in-in-Sell.ensures.best c.cut_in-in-Sell.ensures.event, c.self.invariant.1, c.self.invariant.2)

pub returns-in-Sell-clause-buys : goal.returns-in-Sell-clause-buys
returns-in-Sell-clause-buys g c =
    let rests = rw (← c.self.view_is) at c.requires.rests in
    let one = rests_sell c.self.inside.latest (g.S.SideBook.state c.self.inside.buys).rows (g.S.SideBook.state c.self.inside.sells).rows c.args.row.now c.self.invariant.0.rows rests c.in-Sell.is in
    rw (← c.self.view_is) (sym (without_absent c.args.row.now.entry (g.S.SideBook.state c.self.inside.buys).rows one.absent))

pub returns-in-Sell-clause-ready : goal.returns-in-Sell-clause-ready
returns-in-Sell-clause-ready g c =
    let fewer = without_fewer c.args.row.now.entry (g.S.SideBook.state c.self.inside.sells).rows in
    let left = ap length c.cut_in-in-Sell.ensures.left in
    rw (← c.self.view_is) (λ key h. (ready_fewer _ _ c.self.inside.scratch (omega (arith, fewer, left)) h.0, (h.1.0, c.cut_in-in-Sell.ensures.moves h.1.1), if_some_map _ _ (λ k p. (p.0, on_sells k.side _ _ _ (c.cut_in-in-Sell.ensures.rows k) p.1)) key h.2))
