-- Trades that fit the orders to which they are added.
use Rattle.std.specs.Prelude.{◌≡◌, ℕ, ◌+◌, ◌≤◌, List, [], ◌∷◌, length, slice_get, Some, None}
use Rattle.venue_words.specs.declared.command.Event.{Event}
use Rattle.venue_words.specs.declared.command.Command.TheVariants.{Replace}
use Rattle.venue_words.specs.declared.terms.Terms.{Terms}
use Rattle.venue_words.specs.declared.price.Best.{Best}
use Rattle.venue_words.specs.Retime.{reprice}
use Rattle.eager_meaning.specs.declared.order.Order.{Order}
use Rattle.eager_meaning.specs.declared.trade.Fill.{Fill}
use Rattle.eager_meaning.specs.Orders.{changed_at}
use Rattle.eager_meaning.specs.Trades.{order_after, orders_after}
use Rattle.eager_meaning.specs.Recheck.{recheck}
use Rattle.eager_meaning.specs.declared.order.Live.{Live}
use Rattle.eager_meaning.specs.Orders.{live_named, is_used, known_of}
use Rattle.eager_meaning.specs.Verdict.{verdict}
use Rattle.eager_meaning.specs.Entering.{Arrival, entered, arrival_of_new}
use Rattle.eager_meaning.specs.Changing.{arrival_of_replace}
use Rattle.eager_meaning.specs.State.{own_rows, other_rows, resting}
use Rattle.eager_meaning.specs.Step.{IsNumbered, runs}
use Rattle.market_laws.specs.Placed.{IsPlacedBook}

-- the order with this number is there, and has the shares of a trade left
pub record TradeFits (fill : Fill) (number : ℕ) (orders : List Order) : Type 0 where
  pub order : Order
  pub is : slice_get orders number ≡ Some order
  pub most : order.cum + fill.quantity ≤ order.quantity

-- so for both orders of each trade, one trade after the other
abbrev pub FillsFit : List Fill → List Order → Type 0
FillsFit [] orders = Unit {0}
FillsFit (fill ∷ fills) orders =
    TradeFits fill fill.taker.order orders
    × TradeFits fill fill.contra.order (changed_at (order_after fill) fill.taker.order orders)
    × FillsFit fills (orders_after fill orders)

-- after every history whose events are numbered: the trades that any new national quote makes fit
abbrev pub QuoteTradesFit : Type 0
QuoteTradesFit =
    (markets tick : ℕ) (history : List Event)
    → IsNumbered history
    → (event : ℕ) (best : Best)
    → let s = (runs markets tick history).state in
    FillsFit (recheck (reprice event best s.buys) (reprice event best s.sells)).fills s.orders

-- the trades of an order that enters
abbrev pub arrival_fills : Arrival → List Fill
arrival_fills arrival =
    let side = arrival.taker.row.key.side in
    (entered arrival.taker arrival.immediate (own_rows side arrival.state) (other_rows side arrival.state)).fills

-- after every history whose events are numbered: the trades that a New makes, where it enters at the next event, fit
abbrev pub NewTradesFit : Type 0
NewTradesFit =
    (markets tick : ℕ) (history : List Event)
    → IsNumbered history
    → (member : ℕ) (id : List ℕ) (terms : Terms)
    → let arrival = arrival_of_new tick (length history + 1) member id terms (runs markets tick history).state in
    FillsFit (arrival_fills arrival) arrival.state.orders

-- so for a Replace that names a live order and breaks no rule, where the order enters anew at the next event
abbrev pub ReplaceTradesFit : Type 0
ReplaceTradesFit =
    (markets tick : ℕ) (history : List Event)
    → IsNumbered history
    → (member : ℕ) (id orig : List ℕ) (terms : Terms) (live : Live)
    → let s = (runs markets tick history).state in
    live_named member orig s.orders (resting s) ≡ Some live
    → verdict (Replace member id orig terms) (known_of tick (is_used member id s.used) (Some live)) ≡ None
    → let arrival = arrival_of_replace tick (length history + 1) member id orig terms live s in
    FillsFit (arrival_fills arrival) arrival.state.orders

-- after every history, each row is on its list's side, as its order is, and is priced by the national quote
abbrev pub RowsArePlaced : Type 0
RowsArePlaced = (markets tick : ℕ) (history : List Event) → IsPlacedBook (runs markets tick history).state
