use Rattle.symbol_book.proofs.SmallOrders.{longer_fit}
use Rattle.symbol_book.proofs.orders.Orders.allow.Goals as goal

pub invariant_of-self : goal.invariant_of-self
invariant_of-self c = longer_fit _ _ _ c.allow.ensures.grown c.self.invariant
