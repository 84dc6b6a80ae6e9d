-- What a look-up answers, by the rows alone.
use Rattle.std.specs.Prelude.{◌≡◌, ℕ, ◌<◌, ◌≤◌, List, Option, true, MatchOption}
use Rattle.std.specs.List.{AllByRecursion}
use Rattle.venue_words.specs.declared.row.Row.{Row}
use Rattle.limit_tree.specs.Order.{is_held}

-- a held pair with P of its cap and the least entry among the rows with P of theirs
pub record IsLeastWhere (P : ℕ → Type 0) (rows : List Row) (pair : ℕ × ℕ) : Type 0 where
  pub fits : P pair.0
  pub held : is_held pair.0 pair.1 rows ≡ true
  pub least : AllByRecursion (λ row. P row.cap → pair.1 ≤ row.entry) rows

-- the pair of least entry among the rows with P of their caps; none exactly where there is no such row
abbrev pub FindsLeast : (ℕ → Type 0) → List Row → Option (ℕ × ℕ) → Type 0
FindsLeast P rows found = MatchOption found (AllByRecursion (λ row. P row.cap → ⊥) rows) (IsLeastWhere P rows)

-- the greatest cap below a value
pub record IsGreatestBelow (value : ℕ) (rows : List Row) (pair : ℕ × ℕ) : Type 0 where
  pub below : pair.0 < value
  pub held : is_held pair.0 pair.1 rows ≡ true
  pub greatest : AllByRecursion (λ row. row.cap < value → row.cap ≤ pair.0) rows
  pub least : AllByRecursion (λ row. row.cap ≡ pair.0 → pair.1 ≤ row.entry) rows

abbrev pub FindsGreatestBelow : ℕ → List Row → Option (ℕ × ℕ) → Type 0
FindsGreatestBelow value rows found = MatchOption found (AllByRecursion (λ row. value ≤ row.cap) rows) (IsGreatestBelow value rows)

-- the least entry among the rows with P of their caps, which some cap has
abbrev pub FindsLeastEntry : (ℕ → Type 0) → List Row → Option ℕ → Type 0
FindsLeastEntry P rows found = MatchOption found (AllByRecursion (λ row. P row.cap → ⊥) rows) (λ entry. (cap : ℕ) × IsLeastWhere P rows (cap, entry))

-- the greatest cap below a value, which some row has
pub record IsGreatestCap (value : ℕ) (rows : List Row) (cap : ℕ) : Type 0 where
  pub below : cap < value
  pub some : (entry : ℕ) × (is_held cap entry rows ≡ true)
  pub greatest : AllByRecursion (λ row. row.cap < value → row.cap ≤ cap) rows

abbrev pub FindsGreatestCap : ℕ → List Row → Option ℕ → Type 0
FindsGreatestCap value rows found = MatchOption found (AllByRecursion (λ row. value ≤ row.cap) rows) (IsGreatestCap value rows)
