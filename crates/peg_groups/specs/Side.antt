-- One side of a book, seen as the list of its rows in order of entry.
use Rattle.std.specs.Prelude.{◌≡◌, ℕ, ◌<◌, Option, Some, None, List, []}
use Rattle.std.specs.List.{AllByRecursion}
use Rattle.venue_words.specs.declared.price.Best.{Best}
use Rattle.venue_words.specs.declared.row.Key.{Key}
use Rattle.venue_words.specs.declared.row.Priced.{Priced}
use Rattle.venue_words.specs.declared.row.Row.{Row}
use Rattle.venue_words.specs.Peg.{value_under}
use Rattle.venue_words.specs.Rows.{insert_by_entry, row_by_entry, without_entry}
use Rattle.peg_groups.specs.declared.side_book.Taken.{Taken}

-- the rows in order of entry, the quote that they were last priced by, and the event of that pricing
pub record SideState : Type 0 where
  pub rows : List Priced
  pub best : Best
  pub event : ℕ

-- no rows, before any quote
abbrev pub first_state : SideState
first_state = record { rows = []; best = record { bid = None; offer = None }; event = 0 }

-- a row that enters at a quote, with its entry as time
abbrev pub priced_at : Best → Row → Priced
priced_at best row = record { row = row; value = value_under best row; time = row.entry }

-- the row that was taken out, with the value and the time that it has
abbrev pub taken_row : Taken → Priced
taken_row taken = record { row = taken.node.value.row; value = taken.value; time = taken.time }

-- what a row keeps while it is out of the side: its place, its value and its time
pub record Standing : Type 0 where
  pub key : Key
  pub cap : ℕ
  pub entry : ℕ
  pub value : Option ℕ
  pub time : ℕ

abbrev pub standing_of : Priced → Standing
standing_of row = record { key = row.row.key; cap = row.row.cap; entry = row.row.entry; value = row.value; time = row.time }

-- after the last pricing and after the time of each row
pub record IsLaterThan (side : SideState) (event : ℕ) : Type 0 where
  pub pricing : side.event < event
  pub times : AllByRecursion (λ row. row.time < event) side.rows

-- the row has this key, cap and entry
pub record IsRowAt (key : Key) (cap entry : ℕ) (row : Priced) : Type 0 where
  pub key_is : row.row.key ≡ key
  pub cap_is : row.row.cap ≡ cap
  pub entry_is : row.row.entry ≡ entry

-- the held row of this key, cap and entry
pub record IsHeldAt (key : Key) (cap entry : ℕ) (rows : List Priced) (row : Priced) : Type 0 where
  pub held : row_by_entry entry rows ≡ Some row
  pub placed : IsRowAt key cap entry row

-- no row has this key, cap and entry
abbrev pub NoneAt : Key → ℕ → ℕ → List Priced → Type 0
NoneAt key cap entry rows = AllByRecursion (λ row. IsRowAt key cap entry row → ⊥) rows

-- the state without the row of an entry
abbrev pub without : ℕ → SideState → SideState
without entry side = record { rows = without_entry entry side.rows; best = side.best; event = side.event }

-- the state with one more row
abbrev pub with_row : Priced → SideState → SideState
with_row row side = record { rows = insert_by_entry row side.rows; best = side.best; event = side.event }

-- what a cut took out, and what it left
pub record IsCut (key : Key) (cap entry : ℕ) (old new : SideState) (row : Row) : Type 0 where
  pub taken : Priced
  pub is : taken.row ≡ row
  pub held : IsHeldAt key cap entry old.rows taken
  pub left : new ≡ without entry old
