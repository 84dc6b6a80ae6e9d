-- What a book needs of its orders, so that sums fit and ids have room.
use Rattle.std.specs.Prelude.{ℕ, ◌+◌, ◌*◌, ◌^◌, ◌<◌, ◌≤◌, List, [], ◌∷◌, length, slice_index_or}
use Rattle.eager_meaning.specs.declared.order.Order.{Order}
use Rattle.eager_meaning.specs.declared.trade.Fill.{Fill}
use Rattle.eager_meaning.specs.Orders.{changed_at}
use Rattle.eager_meaning.specs.Trades.{order_after, orders_after}

-- the greatest number of shares of an order
abbrev pub most_shares : ℕ
most_shares = 999999999

-- all orders, for how many more there is room, and how many copies of ids can be made, of how many bytes
pub record OrderList : Type 0 where
  pub items : List Order
  pub room : ℕ
  pub copies : ℕ
  pub longest : ℕ

-- an order whose id has at most so many bytes
pub record HasIdWithin (most : ℕ) (order : Order) : Type 0 where
  pub id : length order.id ≤ most

-- an order with no more traded than its quantity, at prices of 32 bits
pub record IsSmall (order : Order) : Type 0 where
  pub within : order.cum ≤ order.quantity
  pub few : order.quantity ≤ most_shares
  pub worth : order.notional ≤ 2 ^ 32 * order.cum

-- an order with this number is there, and has the shares of a trade left
pub record HasLeft (fill : Fill) (number : ℕ) (orders : List Order) : Type 0 where
  pub here : number < length orders
  pub left : (d : Order) → (slice_index_or orders number d).cum + fill.quantity ≤ (slice_index_or orders number d).quantity

-- so for both orders of each trade, one trade after the other
abbrev pub HaveLeft : List Fill → List Order → Type 0
HaveLeft [] orders = Unit {0}
HaveLeft (fill ∷ fills) orders =
    HasLeft fill fill.taker.order orders
    × HasLeft fill fill.contra.order (changed_at (order_after fill) fill.taker.order orders)
    × HaveLeft fills (orders_after fill orders)
