-- Rows that stand on their order's side, priced by the present quote.
use Rattle.std.specs.Prelude.{◌≡◌, ℕ, ◌*◌, ◌≤◌, List, slice_get, Option, Some, option_map}
use Rattle.std.specs.List.{AllByRecursion}
use Rattle.venue_words.specs.declared.price.TheConstants.{PRICE_END}
use Rattle.venue_words.specs.declared.price.Best.{Best}
use Rattle.venue_words.specs.declared.price.Side.{Side}
use Rattle.venue_words.specs.declared.price.Side.TheVariants.{Buy, Sell}
use Rattle.venue_words.specs.declared.row.Priced.{Priced}
use Rattle.venue_words.specs.Best.{best_of}
use Rattle.venue_words.specs.Peg.{value_under}
use Rattle.eager_meaning.specs.declared.order.Order.{Order}
use Rattle.eager_meaning.specs.State.{State}

-- the side of the order with a number, where there is one
abbrev pub side_at : List Order → ℕ → Option Side
side_at orders number = option_map (λ order. order.side) (slice_get orders number)

-- the other side
abbrev pub opposite : Side → Side
opposite Buy = Sell
opposite Sell = Buy

-- a row is of this side, and so is its order
pub record IsOnSide (orders : List Order) (side : Side) (x : Priced) : Type 0 where
  pub key : x.row.key.side ≡ side
  pub order : side_at orders x.row.order ≡ Some side

-- and its value is that under the quote
pub record IsPlaced (best : Best) (orders : List Order) (side : Side) (x : Priced) : Type 0 where
  pub on : IsOnSide orders side x
  pub priced : x.value ≡ value_under best x.row

-- no order's trades are worth more than its CumQty at the greatest price
abbrev pub AreWorthAtMost : List Order → Type 0
AreWorthAtMost orders =
    (k : ℕ) (order : Order) → slice_get orders k ≡ Some order → order.notional ≤ PRICE_END * order.cum

-- each row of a book is on its list's side and priced by the national quote, and each order's trades are worth at most
-- the greatest price for each share
pub record IsPlacedBook (s : State) : Type 0 where
  pub buys : AllByRecursion (IsPlaced (best_of s.markets) s.orders Buy) s.buys
  pub sells : AllByRecursion (IsPlaced (best_of s.markets) s.orders Sell) s.sells
  pub worth : AreWorthAtMost s.orders
