-- The rows with which orders entered, beside the orders.
use Rattle.std.specs.Prelude.{◌≡◌, ℕ, List, length, slice_get, Option, Some, option_map}
use Rattle.venue_words.specs.declared.row.Row.{Row}
use Rattle.venue_words.specs.declared.row.Priced.{Priced}
use Rattle.eager_meaning.specs.declared.order.Order.{Order}
use Rattle.eager_meaning.specs.Showing.{row_of_order}
use Rattle.market_laws.specs.Standing.{row_left}

-- for each order the row with which it entered last, or none where it may not rest: what is left of it is the order's row
pub record AreEntered (entered : List (Option Row)) (orders : List Order) (rows : List Priced) : Type 0 where
  pub count : length entered ≡ length orders
  pub each : (k : ℕ) (order : Order) (entry : Option Row) → slice_get orders k ≡ Some order
      → slice_get entered k ≡ Some entry → option_map (λ x. x.row) (row_of_order k rows) ≡ row_left order entry
