-- How many keys the rows of a side have.
use Rattle.std.specs.Prelude.{ℕ, ◌+◌, Bool, List, [], ◌∷◌, if◌then◌else◌}
use Rattle.std.specs.List.{list_any}
use Rattle.venue_words.specs.Key.{same_key}
use Rattle.venue_words.specs.declared.row.Key.{Key}
use Rattle.venue_words.specs.declared.row.Priced.{Priced}

-- whether a row has the key
abbrev pub has_key : Key → List Priced → Bool
has_key key rows = list_any (λ other. same_key key other.row.key) rows

-- the number of different keys of the rows
abbrev pub key_count : List Priced → ℕ
key_count [] = 0
key_count (row ∷ rows) = if has_key row.row.key rows then key_count rows else 1 + key_count rows
