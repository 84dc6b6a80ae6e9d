use Rattle.std.proofs.Common.{arith}
use Rattle.std.proofs.lemmas.List.Elements.{All-set}
use Rattle.market_laws.specs.QuantityLaws.{quantity_most}
use Rattle.symbol_book.specs.Orders.{HasIdWithin, IsSmall}
use Rattle.symbol_book.proofs.LiveRows.{get_at}
use Rattle.symbol_book.proofs.SmallOrders.{at_place}
use Rattle.symbol_book.proofs.orders.set_terms.Goals as goal

pub returns-clause-small : goal.returns-clause-small
returns-clause-small c =
    let order = c.index_mut-order.result.now in
    let at = get_at c.args.orders.now.items c.args.number order c.requires.here c.index_mut-order.ensures.value in
    let small = at_place IsSmall c.args.orders.now.items c.args.number order c.requires.small c.requires.here c.index_mut-order.ensures.value in
    let more = c.requires.more order at in
    let most = quantity_most c.args.terms.now in
    All-set IsSmall c.args.orders.now.items c.args.number _
    (record {
      within = omega (arith, c.quantity_of-order.ensures, more);
      few = omega (arith, c.quantity_of-order.ensures, most);
      worth = small.worth;
    })
    c.requires.small

pub returns-clause-ids : goal.returns-clause-ids
returns-clause-ids c = λ most short fit. All-set (HasIdWithin most) c.args.orders.now.items c.args.number _ (record { id = short }) fit
