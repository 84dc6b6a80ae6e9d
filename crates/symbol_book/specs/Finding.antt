-- The order that a request names, as a book finds it.
use Rattle.std.specs.Prelude.{◌≡◌, ℕ, ◌<◌, ◌≤◌, List, slice_get, Option, Some, None}
use Rattle.venue_words.specs.declared.row.Row.{Row}
use Rattle.venue_words.specs.declared.row.Priced.{Priced}
use Rattle.eager_meaning.specs.declared.order.Order.{Order}
use Rattle.eager_meaning.specs.declared.order.Live.{Live}
use Rattle.eager_meaning.specs.Showing.{row_of_order}
use Rattle.match_core.specs.BothSides.{Rests}
use Rattle.symbol_book.specs.declared.finding.Found.{Found}

-- the order with this number is the one that an id names
pub record IsNumberOf (member : ℕ) (id : List ℕ) (orders : List Order) (named : Option (ℕ × Order)) (number : ℕ) : Type 0 where
  pub order : Order
  pub is : named ≡ Some (number, order)
  pub at : slice_get orders number ≡ Some order
  pub owner : order.member ≡ member
  pub name : order.id ≡ id

-- a number for the order that an id names, or none
abbrev pub IsNumber : ℕ → List ℕ → List Order → Option (ℕ × Order) → Option ℕ → Type 0
IsNumber member id orders named None = named ≡ None
IsNumber member id orders named (Some number) = IsNumberOf member id orders named number

-- the row with which the order with this number entered, or none where it has no shares left or may not rest
pub record IsRowIfLive (orders : List Order) (entered : List (Option Row)) (number : ℕ) (row : Option Row) : Type 0 where
  pub live : (order : Order) → slice_get orders number ≡ Some order → order.cum < order.quantity
      → slice_get entered number ≡ Some row
  pub filled : (order : Order) → slice_get orders number ≡ Some order → order.quantity ≤ order.cum → row ≡ None

-- a live order by its number and the row with which it entered
pub record IsFoundAs (orders : List Order) (rows : List Priced) (live : Live) (found : Found) : Type 0 where
  pub number : live.number ≡ found.number
  pub at : slice_get orders found.number ≡ Some live.order
  pub more : live.order.cum < live.order.quantity
  pub row : row_of_order found.number rows ≡ Some live.row
  pub order : found.row.order ≡ found.number
  pub same : live.row.row ≡ record found.row { leaves = live.row.row.leaves; traded = live.row.row.traded }
  pub rests : Rests found.row rows

-- the live order that a request names, or none
abbrev pub IsFound : List Order → List Priced → Option Live → Option Found → Type 0
IsFound orders rows live None = live ≡ None
IsFound orders rows live (Some found) = (is : Live) × (live ≡ Some is) × IsFoundAs orders rows is found
