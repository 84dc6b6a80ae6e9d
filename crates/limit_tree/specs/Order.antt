-- Rows in the order of their caps, and of their entries where these are equal.
use Rattle.std.specs.Prelude.{◌≡◌, ◌≢◌, ℕ, ◌+◌, ◌*◌, ◌^◌, ◌<◌, List, [], ◌∷◌, min, max, nat_lt, ◌==◌, ◌&&◌, ◌||◌, Bool, true, false, Option, Some, None, if◌then◌else◌}
use Rattle.std.specs.List.{AllByRecursion}
use Rattle.venue_words.specs.declared.row.Row.{Row}

-- the place of a pair of cap and entry in the order
abbrev pub pair_rank : ℕ → ℕ → ℕ
pair_rank cap entry = cap * 2 ^ 32 + entry

-- the place of a row in the order
abbrev pub row_rank : Row → ℕ
row_rank row = pair_rank row.cap row.entry

-- the numbers of a row fit 32 bits
abbrev pub HasShortNumbers : Row → Type 0
HasShortNumbers row = (row.cap < 2 ^ 32) × (row.entry < 2 ^ 32)

-- each row has numbers of 32 bits and stands before all later rows
abbrev pub IsOrdered : List Row → Type 0
IsOrdered [] = Unit {0}
IsOrdered (row ∷ rows) = HasShortNumbers row × AllByRecursion (λ later. row_rank row < row_rank later) rows × IsOrdered rows

-- the rows with one more in its place
abbrev pub insert_row : Row → List Row → List Row
insert_row row [] = row ∷ []
insert_row row (first ∷ rows) = if nat_lt (row_rank row) (row_rank first) then row ∷ first ∷ rows else first ∷ insert_row row rows

-- the row has this pair
abbrev pub IsAt : ℕ → ℕ → Row → Type 0
IsAt cap entry row = (row.cap ≡ cap) × (row.entry ≡ entry)

-- the row of a pair
abbrev pub row_at : ℕ → ℕ → List Row → Option Row
row_at cap entry [] = None
row_at cap entry (row ∷ rows) = if row.cap == cap && row.entry == entry then Some row else row_at cap entry rows

-- the rows without that of the pair
abbrev pub without_row : ℕ → ℕ → List Row → List Row
without_row cap entry [] = []
without_row cap entry (row ∷ rows) = if row.cap == cap && row.entry == entry then rows else row ∷ without_row cap entry rows

-- no row has this pair
abbrev pub IsFree : ℕ → ℕ → List Row → Type 0
IsFree cap entry rows = AllByRecursion (λ row. row.cap ≡ cap → row.entry ≢ entry) rows

-- whether a row has this pair
abbrev pub is_held : ℕ → ℕ → List Row → Bool
is_held cap entry [] = false
is_held cap entry (row ∷ rows) = row.cap == cap && row.entry == entry || is_held cap entry rows

-- the least entry, and the greatest number of 32 bits where there is no row
abbrev pub least_entry : List Row → ℕ
least_entry [] = 4294967295
least_entry (row ∷ rows) = min row.entry (least_entry rows)

-- the greatest cap, and 0 where there is no row
abbrev pub highest_cap : List Row → ℕ
highest_cap [] = 0
highest_cap (row ∷ rows) = max row.cap (highest_cap rows)

-- whether there is no row
abbrev pub is_empty : List Row → Bool
is_empty [] = true
is_empty (row ∷ rows) = false
