-- A side as groups of rows by key.
use Rattle.std.specs.Prelude.{◌≡◌, ◌⊎◌, ℕ, zero, suc, ◌^◌, ◌<◌, ◌≤◌, ◌==◌, min, Bool, true, false, not, Option, Some, None, List, [], ◌∷◌, ◌++◌, length, if◌then◌else◌, slice_get, MatchOption}
use Rattle.venue_words.specs.Conditions.{IsKey}
use Rattle.venue_words.specs.Priority.{is_ahead_if_active}
use Rattle.venue_words.specs.declared.row.Priced.{Priced}
use Rattle.venue_words.specs.Peg.{row_value, peg_value}
use Rattle.venue_words.specs.declared.price.Best.{Best}
use Rattle.venue_words.specs.declared.row.Key.{Key}
use Rattle.venue_words.specs.declared.row.Row.{Row}
use Rattle.std.specs.List.{AllByRecursion}
use Rattle.limit_tree.specs.Order.{is_empty, is_held, row_at, insert_row, without_row}
use Rattle.indexmap.specs.IndexMap.{set_value_at}
use Rattle.move_history.specs.Staircase.{Staircase, last_change}
use Rattle.peg_groups.specs.Group.{time_in, priced_in, IsGroupBest, value_from, value_number}
use Rattle.peg_groups.specs.Side.{SideState, Standing}
use Rattle.venue_words.specs.Rows.{IsAbsent, insert_by_entry}
use Rattle.peg_groups.specs.declared.group.Group.{Group}
use Rattle.peg_groups.specs.declared.group.Candidate.{Candidate}

-- the rows of a group, priced by its moves, among other rows
abbrev pub merged : Staircase → List Row → List Priced → List Priced
merged moves [] others = others
merged moves (row ∷ rows) others = insert_by_entry (priced_in moves row) (merged moves rows others)

-- the rows of all groups, in order of entry
abbrev pub rows_of : List (Key × Group) → List Priced
rows_of [] = []
rows_of (item ∷ entries) = merged item.1.moves item.1.tree (rows_of entries)

-- no row of a group has an entry of another one or of another row
abbrev pub AreApart : Staircase → List Row → List Priced → Type 0
AreApart moves [] others = Unit {0}
AreApart moves (row ∷ rows) others = IsAbsent row.entry (merged moves rows others) × AreApart moves rows others

-- each group has P
abbrev pub EachGroup : (Key → Group → Type 0) → List (Key × Group) → Type 0
EachGroup P [] = Unit {0}
EachGroup P (item ∷ entries) = P item.0 item.1 × EachGroup P entries

-- what holds of a row in a group of a key
pub record IsRowOf (key : Key) (row : Row) : Type 0 where
  pub key_is : row.key ≡ key
  pub least : 1 ≤ row.cap
  pub small : row.entry < 2 ^ 32

-- the moves of a group end with the key's value at the quote, and none is after the event
pub record IsGroup (best : Best) (event : ℕ) (key : Key) (group : Group) : Type 0 where
  pub fits : IsKey key
  pub current : group.moves.current ≡ value_number (peg_value key best)
  pub latest : group.moves.latest ≤ event
  pub changes : (cap : ℕ) → last_change group.moves cap ≤ event
  pub rows : AllByRecursion (IsRowOf key) group.tree

-- the groups of a side, with different keys and different entries
abbrev pub AreGroups : Best → ℕ → List (Key × Group) → Type 0
AreGroups best event [] = Unit {0}
AreGroups best event (item ∷ entries) = IsGroup best event item.0 item.1 × AreApart item.1.moves item.1.tree (rows_of entries) × EachGroup (λ key _. key ≡ item.0 → ⊥) entries × AreGroups best event entries

-- the groups, the last quote and its event
pub record GroupsView : Type 0 where
  pub entries : List (Key × Group)
  pub best : Best
  pub event : ℕ

abbrev pub groups_state : GroupsView → SideState
groups_state side = record { rows = rows_of side.entries; best = side.best; event = side.event }

pub record IsGroupSide (side : GroupsView) : Type 0 where
  pub groups : AreGroups side.best side.event side.entries

-- each group has a row
abbrev pub HaveRows : List (Key × Group) → Type 0
HaveRows entries = EachGroup (λ _ group. is_empty group.tree ≡ false) entries

-- each group has room for one move
abbrev pub HaveRoom : List (Key × Group) → Type 0
HaveRoom entries = EachGroup (λ _ group. 0 < group.moves.room) entries

-- a side that also keeps the number of its rows, whether a group may be empty, and whether all have room
pub record IsCounted (side : GroupsView) (len : ℕ) (some_empty all_roomy : Bool) : Type 0 where
  pub is : IsGroupSide side
  pub len_is : len ≡ length (rows_of side.entries)
  pub used : some_empty ≡ false → HaveRows side.entries
  pub roomy : all_roomy ≡ true → HaveRoom side.entries

-- the group of the key has these moves
abbrev pub HasMoves : Key → Staircase → List (Key × Group) → Type 0
HasMoves key moves [] = ⊥
HasMoves key moves (item ∷ entries) = ((item.0 ≡ key) × (item.1.moves ≡ moves)) ⊎ HasMoves key moves entries

-- there is a group of the key
abbrev pub HasGroup : Key → List (Key × Group) → Type 0
HasGroup key entries = (moves : Staircase) × HasMoves key moves entries

-- the group of the key prices a row of this cap and entry so
pub record FitsGroup (entries : List (Key × Group)) (standing : Standing) : Type 0 where
  pub moves : Staircase
  pub has : HasMoves standing.key moves entries
  pub least : 1 ≤ standing.cap
  pub value : standing.value ≡ row_value (value_from moves.current) standing.cap
  pub time : standing.time ≡ time_in moves standing.cap standing.entry

-- the group with other rows
abbrev pub with_rows : Group → List Row → Group
with_rows group rows = record { moves = group.moves; tree = rows }

-- the groups after a pricing
pub record IsMoved (event : ℕ) (best : Best) (key : Key) (old new : Group) : Type 0 where
  pub tree : new.tree ≡ old.tree
  pub current : new.moves.current ≡ value_number (peg_value key best)
  pub latest : new.moves.latest ≡ event
  pub changes : (cap : ℕ) → last_change new.moves cap ≡ (if min old.moves.current cap == min new.moves.current cap then last_change old.moves cap else event)

-- the group with spare places more
pub record IsRoomier (old new : Group) : Type 0 where
  pub tree : new.tree ≡ old.tree
  pub moves : new.moves ≡ record { current = old.moves.current; latest = old.moves.latest; kept = old.moves.kept; room = new.moves.room }
  pub room : old.moves.room ≤ new.moves.room

-- each group stands to the one at its place as R says, and has the same key
abbrev pub PairedBy : (Key → Group → Group → Type 0) → List (Key × Group) → List (Key × Group) → Type 0
PairedBy R [] [] = Unit {0}
PairedBy R [] (new ∷ news) = ⊥
PairedBy R (old ∷ olds) [] = ⊥
PairedBy R (old ∷ olds) (new ∷ news) = (new.0 ≡ old.0) × R old.0 old.1 new.1 × PairedBy R olds news

-- the same for the first groups; the others are as they were
abbrev pub PairedUpTo : (Key → Group → Group → Type 0) → ℕ → List (Key × Group) → List (Key × Group) → Type 0
PairedUpTo R zero olds news = news ≡ olds
PairedUpTo R (suc n) [] news = news ≡ []
PairedUpTo R (suc n) (old ∷ olds) [] = ⊥
PairedUpTo R (suc n) (old ∷ olds) (new ∷ news) = (new.0 ≡ old.0) × R old.0 old.1 new.1 × PairedUpTo R n olds news

-- each of the first groups has P
abbrev pub EachUpTo : (Key → Group → Type 0) → ℕ → List (Key × Group) → Type 0
EachUpTo P zero entries = Unit {0}
EachUpTo P (suc n) [] = Unit {0}
EachUpTo P (suc n) (item ∷ entries) = P item.0 item.1 × EachUpTo P n entries

-- no row of the group goes before the candidate
abbrev pub NoneBefore : Candidate → Key → Group → Type 0
NoneBefore best _ group = AllByRecursion (λ row. is_ahead_if_active (row_value (value_from group.moves.current) row.cap) (time_in group.moves row.cap row.entry) row.entry (Some best.value) best.time best.entry ≡ false) group.tree

-- no row of the group is active
abbrev pub NoneActiveIn : Key → Group → Type 0
NoneActiveIn _ group = AllByRecursion (λ row. row_value (value_from group.moves.current) row.cap ≡ None) group.tree

-- the candidate is a row of the group with this number, and none of the first n groups has a row that goes before it
pub record IsBestUpTo (entries : List (Key × Group)) (n i : ℕ) (best : Candidate) : Type 0 where
  pub key : Key
  pub group : Group
  pub at : slice_get entries i ≡ Some (key, group)
  pub held : is_held best.cap best.entry group.tree ≡ true
  pub active : 0 < group.moves.current
  pub value_is : best.value ≡ min group.moves.current best.cap
  pub time_is : best.time ≡ time_in group.moves best.cap best.entry
  pub first : EachUpTo (NoneBefore best) n entries

abbrev pub BestUpTo : List (Key × Group) → ℕ → Option (ℕ × Candidate) → Type 0
BestUpTo entries n found = MatchOption found (EachUpTo NoneActiveIn n entries) (λ best. IsBestUpTo entries n best.0 best.1)

-- whether the group has a row
abbrev pub has_rows : Key × Group → Bool
has_rows item = not (is_empty item.1.tree)

-- the candidate is a held row of the group before which none of its rows goes, or no row is active
abbrev pub BestIn : Group → Option Candidate → Type 0
BestIn group found = MatchOption found (AllByRecursion (λ row. row_value (value_from group.moves.current) row.cap ≡ None) group.tree) (λ best. (0 < group.moves.current) × IsGroupBest group.moves group.tree best.value best.time best.cap best.entry)

-- a group of a key without rows, with room for one move
pub record IsFresh (best : Best) (key : Key) (group : Group) : Type 0 where
  pub tree : group.tree ≡ []
  pub current : group.moves.current ≡ value_number (peg_value key best)
  pub latest : group.moves.latest ≡ 0
  pub changes : (cap : ℕ) → last_change group.moves cap ≡ 0
  pub room : 0 < group.moves.room

-- one group more, of a new key
pub record HasNew (best : Best) (key : Key) (old new : List (Key × Group)) : Type 0 where
  pub group : Group
  pub fresh : IsFresh best key group
  pub is_new : EachGroup (λ k _. k ≡ key → ⊥) old
  pub left : new ≡ old ++ (key, group) ∷ []

-- no group has a row of this key, cap and entry
abbrev pub NoneIn : Key → ℕ → ℕ → List (Key × Group) → Type 0
NoneIn key cap entry entries = EachGroup (λ k _. k ≡ key → ⊥) entries ⊎ ((i : ℕ) × (group : Group) × (slice_get entries i ≡ Some (key, group)) × (row_at cap entry group.tree ≡ None))

-- a row entered the group of its key
pub record EntersGroup (key : Key) (row : Row) (old new : List (Key × Group)) : Type 0 where
  pub i : ℕ
  pub group : Group
  pub at : slice_get old i ≡ Some (key, group)
  pub left : new ≡ set_value_at old i (with_rows group (insert_row row group.tree))

-- a row left the group of its key
pub record LeavesGroup (key : Key) (cap entry : ℕ) (row : Row) (old new : List (Key × Group)) : Type 0 where
  pub i : ℕ
  pub group : Group
  pub at : slice_get old i ≡ Some (key, group)
  pub row_is : row_at cap entry group.tree ≡ Some row
  pub left : new ≡ set_value_at old i (with_rows group (without_row cap entry group.tree))

-- the group of a key has a row of this cap and entry, which it prices so
pub record PricesRow (key : Key) (cap entry : ℕ) (entries : List (Key × Group)) (value : Option ℕ) (time : ℕ) : Type 0 where
  pub i : ℕ
  pub group : Group
  pub at : slice_get entries i ≡ Some (key, group)
  pub held : is_held cap entry group.tree ≡ true
  pub value_is : value ≡ row_value (value_from group.moves.current) cap
  pub time_is : time ≡ time_in group.moves cap entry

-- the first active row left its group
pub record TakesFirst (row : Row) (best : Candidate) (old new : List (Key × Group)) : Type 0 where
  pub key : Key
  pub leaves : LeavesGroup key best.cap best.entry row old new
  pub active : 0 < leaves.group.moves.current
  pub value_is : best.value ≡ min leaves.group.moves.current best.cap
  pub time_is : best.time ≡ time_in leaves.group.moves best.cap best.entry
  pub first : EachGroup (NoneBefore best) old

-- each group has at least the room that it had, and there may be one of the key more
pub record ReservesGroups (best : Best) (key : Option Key) (old new : List (Key × Group)) : Type 0 where
  pub middle : List (Key × Group)
  pub roomier : PairedBy (λ _ o n. IsRoomier o n) old middle
  pub grown : (new ≡ middle) ⊎ ((k : Key) × (key ≡ Some k) × HasNew best k middle new)

-- what a change of rows alone leaves
pub record KeepsMoves (old new : List (Key × Group)) : Type 0 where
  pub len : length new ≡ length old
  pub fits : (standing : Standing) → FitsGroup old standing → FitsGroup new standing
  pub rows : (key : Key) → HasGroup key old → HasGroup key new
  pub room : HaveRoom old → HaveRoom new
