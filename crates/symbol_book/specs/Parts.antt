-- What a book keeps beside its journal, over any engine: `buys`, `sells` and `best` are what the engine tells of itself.
use Rattle.std.specs.Prelude.{◌≡◌, ℕ, ◌+◌, ◌*◌, ◌^◌, ◌<◌, ◌≤◌, List, ◌++◌, length, vec_len}
use Rattle.std.specs.Vec.{vec_capacity}
use Rattle.venue_words.specs.declared.command.Event.{Event}
use Rattle.venue_words.specs.declared.price.Best.{Best}
use Rattle.venue_words.specs.declared.row.Priced.{Priced}
use Rattle.venue_words.specs.Best.{best_of}
use Rattle.eager_meaning.specs.State.{State}
use Rattle.symbol_book.specs.Book.{KeepsOrders}
use Rattle.symbol_book.specs.Ids.{used_of}
use Rattle.symbol_book.specs.State.{state_of}
use Rattle.symbol_book.specs.Worked.{IsWorked}
use Rattle.symbol_book.specs.declared.parts.Parts.{Parts}

-- the market's state
abbrev pub state_in : {T : Type 0} → (T → List Priced) → (T → List Priced) → Parts T → State
state_in buys sells parts =
    state_of parts.markets (buys parts.engine) (sells parts.engine) parts.orders.items (used_of parts.ids.entries)

-- the rows of both sides
abbrev pub rows_in : {T : Type 0} → (T → List Priced) → (T → List Priced) → Parts T → List Priced
rows_in buys sells parts = buys parts.engine ++ sells parts.engine

-- how many these are
abbrev pub resting_in : {T : Type 0} → (T → List Priced) → (T → List Priced) → Parts T → ℕ
resting_in buys sells parts = length (buys parts.engine) + length (sells parts.engine)

-- the engine's quote is that of the markets, rows and ids are kept with the orders, and both are few
pub record Agree {T : Type 0} (buys sells : T → List Priced) (best : T → Best) (parts : Parts T) : Type 0 where
  pub quote : best parts.engine ≡ best_of parts.markets
  pub kept : KeepsOrders parts.entered.items parts.orders.items (rows_in buys sells parts) parts.ids.entries
  pub few_orders : length parts.orders.items < 2 ^ 31
  pub few : resting_in buys sells parts < 2 ^ 30

-- there are places for what one event adds in a book of so many rows, and copies of the ids that it tells
pub record HasRoom {T : Type 0} (rows : ℕ) (parts : Parts T) : Type 0 where
  pub orders : 0 < parts.orders.room
  pub entries : vec_len parts.entered < vec_capacity parts.entered
  pub ids : 0 < parts.ids.room
  pub places : 2 * rows + 4 ≤ parts.log.places
  pub copies : 2 * rows + 3 ≤ parts.orders.copies

-- an event made these parts of those, with its reports up to this place
abbrev pub AreWorked : {T : Type 0} → (T → List Priced) → (T → List Priced) → ℕ → Event → Parts T → Parts T → ℕ → Type 0
AreWorked buys sells tick event before after place =
    IsWorked tick event (state_in buys sells before) before.entered.items before.ids.entries before.log.list
    (state_in buys sells after) after.entered.items after.ids.entries after.log.list place
