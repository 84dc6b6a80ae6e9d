use Rattle.match_core.proofs.Enters.{sides_buy, sides_sell}
use Rattle.match_core.proofs.entering.enter_on.Goals as goal

pub returns-in-Buy-clause-sides : goal.returns-in-Buy-clause-sides
returns-in-Buy-clause-sides g c = sides_buy c.requires.sides.0 c.args.enters.quote c.args.enters.row c.args.enters.immediate (g.S.SideBook.state c.args.buys.now) (g.S.SideBook.state c.args.sells.now) (g.S.SideBook.state c.enter_row.new.own) (g.S.SideBook.state c.enter_row.new.other) c.in-Buy.is c.requires.sides.2 c.requires.sides.1 c.enter_row.ensures.own c.enter_row.ensures.others c.enter_row.ensures.best c.enter_row.ensures.other_best c.enter_row.ensures.event c.enter_row.ensures.other_event

pub returns-in-Sell-clause-sides : goal.returns-in-Sell-clause-sides
returns-in-Sell-clause-sides g c = sides_sell c.requires.sides.0 c.args.enters.quote c.args.enters.row c.args.enters.immediate (g.S.SideBook.state c.args.buys.now) (g.S.SideBook.state c.args.sells.now) (g.S.SideBook.state c.enter_row-in-Sell.new.other) (g.S.SideBook.state c.enter_row-in-Sell.new.own) c.in-Sell.is c.requires.sides.2 c.requires.sides.1 c.enter_row-in-Sell.ensures.own c.enter_row-in-Sell.ensures.others c.enter_row-in-Sell.ensures.other_best c.enter_row-in-Sell.ensures.best c.enter_row-in-Sell.ensures.other_event c.enter_row-in-Sell.ensures.event
