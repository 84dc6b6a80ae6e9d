-- Lists of priced rows in order of entry.
use Rattle.std.specs.Prelude.{◌≡◌, ℕ, ◌<◌, ◌==◌, nat_lt, Option, Some, None, List, [], ◌∷◌, if◌then◌else◌}
use Rattle.std.specs.List.{AllByRecursion}
use Rattle.venue_words.specs.declared.row.Priced.{Priced}

-- each row entered before all later ones
abbrev pub IsByEntry : List Priced → Type 0
IsByEntry [] = Unit {0}
IsByEntry (row ∷ rows) = AllByRecursion (λ later. row.row.entry < later.row.entry) rows × IsByEntry rows

-- no row has this entry
abbrev pub IsAbsent : ℕ → List Priced → Type 0
IsAbsent entry rows = AllByRecursion (λ row. row.row.entry ≡ entry → ⊥) rows

-- the rows with one more, in order of entry
abbrev pub insert_by_entry : Priced → List Priced → List Priced
insert_by_entry row [] = row ∷ []
insert_by_entry row (first ∷ rows) =
    if nat_lt row.row.entry first.row.entry then row ∷ first ∷ rows else first ∷ insert_by_entry row rows

-- the row of an entry
abbrev pub row_by_entry : ℕ → List Priced → Option Priced
row_by_entry entry [] = None
row_by_entry entry (row ∷ rows) = if row.row.entry == entry then Some row else row_by_entry entry rows

-- the rows without that of an entry
abbrev pub without_entry : ℕ → List Priced → List Priced
without_entry entry [] = []
without_entry entry (row ∷ rows) = if row.row.entry == entry then rows else row ∷ without_entry entry rows
