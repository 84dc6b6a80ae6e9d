-- What trades make of the orders, and what the two orders of each are told.
use Rattle.std.specs.Prelude.{◌+◌, ◌*◌, List, [], ◌∷◌, ◌++◌, fold, slice_get, option_map, option_to_list}
use Rattle.venue_words.specs.declared.report.Execution.TheVariants.{Traded}
use Rattle.venue_words.specs.declared.report.Kind.TheVariants.{Order as OrderReport}
use Rattle.eager_meaning.specs.declared.trade.Fill.{Fill}
use Rattle.eager_meaning.specs.declared.trade.Party.{Party}
use Rattle.eager_meaning.specs.declared.order.Order.{Order}
use Rattle.eager_meaning.specs.declared.notice.Notice.{Notice}
use Rattle.eager_meaning.specs.Orders.{changed_at}
use Rattle.eager_meaning.specs.Showing.{view_traded}

-- an order after a trade
unfoldable pub order_after : Fill → Order → Order
order_after fill order =
    record order { cum = order.cum + fill.quantity; notional = order.notional + fill.price * fill.quantity }

-- the orders after a trade
unfoldable pub orders_after : Fill → List Order → List Order
orders_after fill orders =
    changed_at (order_after fill) fill.contra.order (changed_at (order_after fill) fill.taker.order orders)

-- the orders after trades
unfoldable pub orders_after_all : List Fill → List Order → List Order
orders_after_all fills orders = fold (λ before fill. orders_after fill before) orders fills

-- the notice of a trade to one of its two orders, as it is after the trade
unfoldable pub trade_notice : Fill → List Order → Party → List Notice
trade_notice fill orders party =
    option_to_list
    (option_map
    (λ order. record {
      member = order.member;
      kind = OrderReport (view_traded order party) (Traded fill.quantity fill.price);
    })
    (slice_get orders party.order))

-- the notices of trades, each to the taker and then to the contra
unfoldable pub trade_notices : List Fill → List Order → List Notice
trade_notices [] orders = []
trade_notices (fill ∷ fills) orders =
    let next = orders_after fill orders in
    trade_notice fill next fill.taker ++ (trade_notice fill next fill.contra ++ trade_notices fills next)
