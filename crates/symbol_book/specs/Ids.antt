-- The ids that members used up, each with its order, and the orders that they name.
use Rattle.std.specs.Prelude.{◌≡◌, ℕ, ◌+◌, ◌-◌, Bool, true, false, ◌&&◌, ◌==◌, if◌then◌else◌, List, [], ◌∷◌}
use Rattle.std.specs.Prelude.{length, take, drop, map, find, slice_get}
use Rattle.std.specs.Prelude.{Option, Some, None, option_map, option_and_then}
use Rattle.std.specs.Str.{bytes_eq}
use Rattle.eager_meaning.specs.declared.order.Order.{Order}
use Rattle.eager_meaning.specs.Orders.{is_named}
use Rattle.symbol_book.specs.declared.ids.ClOrdId.{ClOrdId}

-- an id that is used up: its member, and the number of the order that it was used for
pub record UsedId : Type 0 where
  pub member : ℕ
  pub id : List ℕ
  pub order : ℕ

-- all of them in the order in which they were used, the one that is placed or none, and for how many there is room, that one
-- among them
pub record IdList : Type 0 where
  pub entries : List UsedId
  pub placed : List UsedId
  pub room : ℕ

-- the ids of a map with so many places to spare, of which the last may only be placed
abbrev pub list_of : Bool → List UsedId → ℕ → IdList
list_of false entries spare = record { entries = entries; placed = []; room = spare }
list_of true entries spare =
    record {
      entries = take (length entries - 1) entries;
      placed = drop (length entries - 1) entries;
      room = spare + 1;
    }

-- whether two ids are the same, as the map tests it
abbrev pub same_id : ClOrdId → ClOrdId → Bool
same_id a b = (a.member == b.member) && bytes_eq a.id b.id

-- as a list of pairs
abbrev pub used_of : List UsedId → List (ℕ × List ℕ)
used_of entries = map (λ e. (e.member, e.id)) entries

-- the id is placed, for the order with this number
pub record IsPlaced (member : ℕ) (id : List ℕ) (order : ℕ) (placed : List UsedId) : Type 0 where
  pub is : placed ≡ record { member = member; id = id; order = order } ∷ []
  pub used : used_of placed ≡ (member, id) ∷ []

-- the entry of an id
abbrev pub entry_of : ℕ → List ℕ → List UsedId → Option UsedId
entry_of member id entries = find (λ e. (e.member == member) && bytes_eq e.id id) entries

-- the present id of each order has an entry with the order's number
pub record NameOrders (entries : List UsedId) (orders : List Order) : Type 0 where
  pub each : (k : ℕ) (order : Order) → slice_get orders k ≡ Some order
      → option_map (λ e. e.order) (entry_of order.member order.id entries) ≡ Some k

-- an order with its number, where the id names it at present
abbrev pub if_named : ℕ → List ℕ → ℕ → Order → Option (ℕ × Order)
if_named member id number order = if is_named member id order then Some (number, order) else None

-- the order with a number, where there is one and the id names it at present
abbrev pub named_at : ℕ → List ℕ → List Order → Option ℕ → Option (ℕ × Order)
named_at member id orders number = option_and_then (λ k. option_and_then (if_named member id k) (slice_get orders k)) number
