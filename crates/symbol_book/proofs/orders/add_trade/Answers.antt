use Rattle.std.proofs.Common.{◌<◌, ◌^◌, arith}
use Rattle.std.proofs.lemmas.List.Elements.{All-set}
use Rattle.symbol_book.specs.Orders.{HasIdWithin, IsSmall}
use Rattle.symbol_book.proofs.SmallOrders.{at_place, traded_small}
use Rattle.symbol_book.proofs.orders.add_trade.Goals as goal

pub returns-clause-small : goal.returns-clause-small
returns-clause-small c =
    let order = c.index_mut-order.result.now in
    let low : c.args.fill.price < 2 ^ 32 = omega arith in
    let small = at_place IsSmall c.args.orders.now.items c.args.number order c.requires.small c.requires.left.here c.index_mut-order.ensures.value in
    let left = c.requires.left.left order in
    All-set IsSmall c.args.orders.now.items c.args.number _
    (rw (c.from.ensures, c.from-2.ensures) (traded_small order c.args.fill.price c.args.fill.quantity small (rw c.index_mut-order.ensures.value left) low))
    c.requires.small

pub returns-clause-ids : goal.returns-clause-ids
returns-clause-ids c = λ most fit.
    let order = c.index_mut-order.result.now in
    let id = at_place (HasIdWithin most) c.args.orders.now.items c.args.number order fit c.requires.left.here c.index_mut-order.ensures.value in
    All-set (HasIdWithin most) c.args.orders.now.items c.args.number _ (record { id = id.id }) fit
