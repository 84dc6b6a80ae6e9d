-- The greatest value of a side's rows.
use Rattle.std.specs.Prelude.{ℕ, max, Option, Some, None, List, [], ◌∷◌}
use Rattle.venue_words.specs.Peg.{row_value}
use Rattle.venue_words.specs.declared.row.Priced.{Priced}
use Rattle.venue_words.specs.declared.row.Row.{Row}

-- the greater of two values, of which each may be none
abbrev pub higher : Option ℕ → Option ℕ → Option ℕ
higher None other = other
higher (Some value) None = Some value
higher (Some value) (Some other) = Some (max value other)

-- the greatest value of a row; none where no row is active
abbrev pub best_value : List Priced → Option ℕ
best_value [] = None
best_value (row ∷ rows) = higher row.value (best_value rows)

-- the same for the rows of a group with this value
abbrev pub best_under : Option ℕ → List Row → Option ℕ
best_under value [] = None
best_under value (row ∷ rows) = higher (row_value value row.cap) (best_under value rows)

-- the greatest of values
abbrev pub highest_of : List (Option ℕ) → Option ℕ
highest_of [] = None
highest_of (value ∷ values) = higher value (highest_of values)
