use Rattle.std.proofs.Common.{ap, ◌∙◌, Some}
use Rattle.std.specs.Prelude.{option_map}
use Rattle.venue_words.specs.declared.row.Priced.{Priced}
use Rattle.venue_words.specs.Price.{price_shown}
use Rattle.match_core.proofs.SideRows.{rests_buy, rests_sell}
use Rattle.match_core.proofs.sides.SidesEngine.priced.Goals as goal

pub price_in-requires : goal.price_in-requires
price_in-requires g c =
    let rests = rw (← c.self.view_is) at c.requires.rests in
    let one = rests_buy c.self.inside.latest (g.S.SideBook.state c.self.inside.buys).rows (g.S.SideBook.state c.self.inside.sells).rows c.args.row.now c.self.invariant.0.rows rests c.in-Buy.is in
    record { held = (rests.found, one.held) }

pub returns-in-Buy-clause-shown : goal.returns-in-Buy-clause-shown
returns-in-Buy-clause-shown g c =
    let rests = rw (← c.self.view_is) at c.requires.rests in
    let one = rests_buy c.self.inside.latest (g.S.SideBook.state c.self.inside.buys).rows (g.S.SideBook.state c.self.inside.sells).rows c.args.row.now c.self.invariant.0.rows rests c.in-Buy.is in
    rw (← c.self.view_is) (ap (option_map (λ (x : Priced). (price_shown x, x.time))) rests.is ∙ ap Some (c.price_in.ensures.shown rests.found one.held))

pub price_in-requires-in-Sell : goal.price_in-requires-in-Sell
price_in-requires-in-Sell g c =
    let rests = rw (← c.self.view_is) at c.requires.rests in
    let one = rests_sell c.self.inside.latest (g.S.SideBook.state c.self.inside.buys).rows (g.S.SideBook.state c.self.inside.sells).rows c.args.row.now c.self.invariant.0.rows rests c.in-Sell.is in
    record { held = (rests.found, one.held) }

pub returns-in-Sell-clause-shown : goal.returns-in-Sell-clause-shown
returns-in-Sell-clause-shown g c =
    let rests = rw (← c.self.view_is) at c.requires.rests in
    let one = rests_sell c.self.inside.latest (g.S.SideBook.state c.self.inside.buys).rows (g.S.SideBook.state c.self.inside.sells).rows c.args.row.now c.self.invariant.0.rows rests c.in-Sell.is in
    rw (← c.self.view_is) (ap (option_map (λ (x : Priced). (price_shown x, x.time))) rests.is ∙ ap Some (c.price_in-in-Sell.ensures.shown rests.found one.held))
