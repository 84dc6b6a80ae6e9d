use Rattle.std.proofs.Common.{◌<◌, length, sym, subst}
use Rattle.symbol_book.specs.Orders.{HasIdWithin, OrderList}
use Rattle.symbol_book.proofs.SmallOrders.{at_place}
use Rattle.symbol_book.proofs.orders.Orders.copy_id.Goals as goal

pub copy-requires-clause-short : goal.copy-requires-clause-short
copy-requires-clause-short c =
    (at_place (HasIdWithin c.self.inside.copies.longest) c.self.inside.list.items c.args.number _ c.self.invariant
    (subst (λ (o : OrderList). c.args.number < length o.items) (sym c.self.view_is) c.requires.here) c.index-order.ensures).id
