use Rattle.std.proofs.Common.{◌≡◌, ◌++◌, drop}
use Rattle.eager_meaning.specs.Trades.{trade_notices, orders_after_all}
use Rattle.plain_market.proofs.trading.push_trade_notices.Given as goal

-- what is told so far, and what the trades that are left will tell and change
abbrev pub invariant-loop-fill : goal.invariant-loop-fill
invariant-loop-fill l =
    (l.notices.items ++ trade_notices (drop l.fill-index l.fills) l.orders.items
    ≡ l.initial.notices.items ++ trade_notices l.fills l.initial.orders.items)
    × (orders_after_all (drop l.fill-index l.fills) l.orders.items ≡ orders_after_all l.fills l.initial.orders.items)
