-- Rows and orders of a book that agree with each other.
use Rattle.std.specs.Prelude.{◌≡◌, ℕ, ◌+◌, ◌≤◌, nat_lt, List, length, slice_get, Some}
use Rattle.std.specs.List.{AllByRecursion}
use Rattle.venue_words.specs.declared.row.Row.{Row}
use Rattle.venue_words.specs.declared.row.Priced.{Priced}
use Rattle.eager_meaning.specs.declared.order.Order.{Order}
use Rattle.venue_words.specs.declared.command.Event.{Event}
use Rattle.eager_meaning.specs.State.{State}
use Rattle.eager_meaning.specs.Step.{IsNumbered, runs}
use Rattle.market_laws.specs.Pairwise.{Pairwise}

-- two rows entered at different events, and are of different orders
pub record AreDifferent (x y : Row) : Type 0 where
  pub entry : x.entry ≡ y.entry → ⊥
  pub order : x.order ≡ y.order → ⊥

-- a row differs from each of these
abbrev pub IsNew : Row → List Priced → Type 0
IsNew row rows = AllByRecursion (λ y. AreDifferent row y.row) rows

-- no two rows are of one event or of one order
abbrev pub AllDiffer : List Priced → Type 0
AllDiffer rows = Pairwise AreDifferent rows

-- a row agrees with its order: the shares that are left and those traded are the quantity
pub record IsHeld (events : ℕ) (orders : List Order) (row : Row) : Type 0 where
  pub order : Order
  pub is : slice_get orders row.order ≡ Some order
  pub member : row.member ≡ order.member
  pub quantity : row.leaves + order.cum ≡ order.quantity
  pub traded : row.traded ≡ nat_lt 0 order.cum
  pub entered : row.entry ≤ events

-- and has shares left
pub record IsLiveRow (events : ℕ) (orders : List Order) (row : Row) : Type 0 where
  pub held : IsHeld events orders row
  pub left : 1 ≤ row.leaves

-- what traded is at most the quantity, which is at most 999,999,999
pub record IsSoundOrder (order : Order) : Type 0 where
  pub traded : order.cum ≤ order.quantity
  pub quantity : order.quantity ≤ 999999999

-- the rows of two sides and their orders, after so many events
pub record AreSound (events : ℕ) (orders : List Order) (own others : List Priced) : Type 0 where
  pub own_live : AllByRecursion (λ x. IsLiveRow events orders x.row) own
  pub others_live : AllByRecursion (λ x. IsLiveRow events orders x.row) others
  pub own_differ : AllDiffer own
  pub others_differ : AllDiffer others
  pub differ : AllByRecursion (λ x. IsNew x.row others) own
  pub sound : (k : ℕ) (order : Order) → slice_get orders k ≡ Some order → IsSoundOrder order

-- a state after so many events: its rows and orders agree, and it has no more orders than events, and no more rows than
-- orders
pub record IsSound (events : ℕ) (s : State) : Type 0 where
  pub rows : AreSound events s.orders s.buys s.sells
  pub few : length s.orders ≤ events
  pub fewer : length s.buys + length s.sells ≤ length s.orders

-- after every history whose events are numbered, the book is sound
abbrev pub BookIsSound : Type 0
BookIsSound =
    (markets tick : ℕ) (history : List Event)
    → IsNumbered history
    → IsSound (length history) (runs markets tick history).state
