use Rattle.std.proofs.Common.{◌≤◌, length, sym, subst}
use Rattle.symbol_book.specs.Orders.{OrderList}
use Rattle.symbol_book.proofs.SmallOrders.{one_more_fits}
use Rattle.symbol_book.proofs.orders.Orders.push_reserved.Goals as goal

pub invariant_of-self : goal.invariant_of-self
invariant_of-self c =
    rw c.push_reserved.ensures.items
    (one_more_fits _ _ c.args.order (subst (λ (o : OrderList). length c.args.order.id ≤ o.longest) (sym c.self.view_is) c.requires.id) c.self.invariant)
