-- The first row of a side by priority, said without sorting.
use Rattle.std.specs.Prelude.{◌≡◌, ℕ, false, Some, None, List}
use Rattle.std.specs.List.{AllByRecursion}
use Rattle.venue_words.specs.declared.row.Priced.{Priced}
use Rattle.venue_words.specs.Priority.{before}
use Rattle.venue_words.specs.Rows.{row_by_entry}

-- the row is active and held, and no other one goes before it
pub record IsFirst (rows : List Priced) (row : Priced) : Type 0 where
  pub active : (value : ℕ) × (row.value ≡ Some value)
  pub held : row_by_entry row.row.entry rows ≡ Some row
  pub first : AllByRecursion (λ other. before other row ≡ false) rows

-- none is active
abbrev pub NoneActive : List Priced → Type 0
NoneActive rows = AllByRecursion (λ row. row.value ≡ None) rows
