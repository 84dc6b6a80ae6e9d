-- Rows that are out of their side while a taker goes through them, and how they come back.
use Rattle.std.specs.Prelude.{◌≡◌, ℕ, ◌-◌, ◌<◌, nat_lt, true, List, [], ◌∷◌, ◌++◌, map, if◌then◌else◌}
use Rattle.venue_words.specs.declared.row.Priced.{Priced}
use Rattle.venue_words.specs.Price.{crosses}
use Rattle.venue_words.specs.Priority.{in_priority}
use Rattle.venue_words.specs.Rows.{IsByEntry, IsAbsent, insert_by_entry}
use Rattle.eager_meaning.specs.Walk.{walk, taken_from}
use Rattle.eager_meaning.specs.Matching.{row_after}
use Rattle.limit_tree.specs.Part.{IsLeaf}
use Rattle.peg_groups.specs.declared.side_book.Taken.{Taken}
use Rattle.peg_groups.specs.Side.{taken_row}

-- the rows that were taken out
abbrev pub taken_rows : List Taken → List Priced
taken_rows items = map taken_row items

-- its node has no children
abbrev pub IsAlone : Taken → Type 0
IsAlone taken = IsLeaf taken.node.value

-- it has shares left
abbrev pub HasLeaves : Priced → Type 0
HasLeaves x = 0 < x.row.leaves

-- the rows with more of them
abbrev pub put_in : List Priced → List Priced → List Priced
put_in [] rows = rows
put_in (x ∷ xs) rows = insert_by_entry x (put_in xs rows)

-- no entry stands twice, in these and in the rows
abbrev pub AreOut : List Priced → List Priced → Type 0
AreOut [] rows = Unit {0}
AreOut (x ∷ xs) rows = IsAbsent x.row.entry rows × IsAbsent x.row.entry xs × AreOut xs rows

-- a taker with shares left goes through all of them, and has the last number of shares left behind them
abbrev pub PassesAll : Priced → ℕ → List Priced → ℕ → Type 0
PassesAll t left [] rest = left ≡ rest
PassesAll t left (x ∷ xs) rest =
    (crosses t x ≡ true) × (0 < left) × PassesAll t (left - taken_from t.row left x.row) xs rest

-- what a taker went through, and what stayed of the rows
pub record Gathered (t : Priced) (old new aside : List Priced) (left : ℕ) : Type 0 where
  pub passes : PassesAll t t.row.leaves aside left
  pub order : in_priority old ≡ aside ++ in_priority new
  pub back : put_in aside new ≡ old
  pub out : AreOut aside new

-- the first active row was taken out, and crosses
pub record IsNext (t x : Priced) (old new : List Priced) : Type 0 where
  pub crosses_it : crosses t x ≡ true
  pub order : in_priority old ≡ x ∷ in_priority new
  pub back : insert_by_entry x new ≡ old
  pub absent : IsAbsent x.row.entry new
  pub sorted : IsByEntry new

-- the taker goes through none
abbrev pub NoNext : Priced → List Priced → Type 0
NoNext t rows = (left : ℕ) → walk t left (in_priority rows) ≡ []

-- the rows that a taker went through, after the trades
abbrev pub finals : Priced → ℕ → List Priced → List Priced
finals t left [] = []
finals t left (x ∷ xs) =
    row_after (taken_from t.row left x.row) x ∷ finals t (left - taken_from t.row left x.row) xs

-- a row comes back where it has shares left
abbrev pub put_filled_one : Priced → List Priced → List Priced
put_filled_one x rows = if nat_lt 0 x.row.leaves then insert_by_entry x rows else rows

-- and so does each of more rows
abbrev pub put_filled : List Priced → List Priced → List Priced
put_filled [] rows = rows
put_filled (x ∷ xs) rows = put_filled xs (put_filled_one x rows)
