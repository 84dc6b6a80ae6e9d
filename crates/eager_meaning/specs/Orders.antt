-- The orders of a book by their ids.
use Rattle.std.specs.Prelude.{ℕ, Bool, ◌&&◌, ◌==◌, List, find, Option, is_some, option_map, option_and_then, slice_get, slice_set}
use Rattle.std.specs.Option.{option_map_or}
use Rattle.std.specs.List.{list_any, enumerate_from}
use Rattle.std.specs.Str.{bytes_eq}
use Rattle.venue_words.specs.declared.price.Side.TheVariants.{Buy}
use Rattle.venue_words.specs.declared.row.Priced.{Priced}
use Rattle.eager_meaning.specs.declared.known.Known.{Known}
use Rattle.eager_meaning.specs.declared.order.Order.{Order}
use Rattle.eager_meaning.specs.declared.order.Live.{Live}
use Rattle.eager_meaning.specs.Showing.{row_of_order}

-- whether an order is the member's, and has this id at present
abbrev pub is_named : ℕ → List ℕ → Order → Bool
is_named member id order = (order.member == member) && bytes_eq order.id id

-- an order with its number, live or not
unfoldable pub order_named : ℕ → List ℕ → List Order → Option (ℕ × Order)
order_named member id orders = find (λ found. is_named member id found.1) (enumerate_from 0 orders)

-- an order that was found, with its row, where it has one
abbrev pub with_row : List Priced → ℕ × Order → Option Live
with_row rows found =
    option_map (λ x. record { number = found.0; order = found.1; row = x }) (row_of_order found.0 rows)

-- the member's live order with this id
unfoldable pub live_named : ℕ → List ℕ → List Order → List Priced → Option Live
live_named member id orders rows = option_and_then (with_row rows) (order_named member id orders)

-- whether the member used up the id
unfoldable pub is_used : ℕ → List ℕ → List (ℕ × List ℕ) → Bool
is_used member id used = list_any (λ pair. (pair.0 == member) && bytes_eq pair.1 id) used

-- what the rules ask of the book, for a command whose id is used or not, and the live order that it names or none
unfoldable pub known_of : ℕ → Bool → Option Live → Known
known_of tick used live =
    record {
      used = used;
      live = is_some live;
      side = option_map_or (λ found. found.order.side) live Buy;
      cum = option_map_or (λ found. found.order.cum) live 0;
      tick = tick;
    }

-- the list with the element at a place changed, where there is one
abbrev pub changed_at : {T : Type 0} → (T → T) → ℕ → List T → List T
changed_at change k xs = option_map_or (λ x. slice_set xs k (change x)) (slice_get xs k) xs
