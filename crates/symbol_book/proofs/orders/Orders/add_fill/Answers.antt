use Rattle.symbol_book.proofs.orders.Orders.add_fill.Goals as goal

pub invariant_of-self : goal.invariant_of-self
invariant_of-self c = c.add_trade-2.ensures.ids _ (c.add_trade.ensures.ids _ c.self.invariant)
