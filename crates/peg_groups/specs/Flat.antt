-- A side as a flat list of places, of which some are free until the side is tidied.
use Rattle.std.specs.Prelude.{◌≡◌, ℕ, ◌≤◌, Option, Some, None, List, [], ◌∷◌, length, take, Bool, true, false, is_some, if◌then◌else◌, MatchOption, slice_get, slice_set, nat_eq}
use Rattle.std.specs.List.{AllByRecursion}
use Rattle.std.specs.Option.{option_eq}
use Rattle.std.specs.declared.alloc.Global.{Global}
use Rattle.std.specs.declared.boxed.Box.{Box}
use Rattle.limit_tree.specs.Part.{Part, IsLeaf}
use Rattle.venue_words.specs.Conditions.{IsKey}
use Rattle.venue_words.specs.Peg.{peg_value, row_value}
use Rattle.venue_words.specs.Priority.{is_ahead_if_active}
use Rattle.venue_words.specs.Rows.{IsAbsent, insert_by_entry}
use Rattle.venue_words.specs.declared.price.Best.{Best}
use Rattle.venue_words.specs.declared.row.Key.{Key}
use Rattle.venue_words.specs.declared.row.Priced.{Priced}
use Rattle.peg_groups.specs.Side.{SideState, Standing, standing_of, taken_row}
use Rattle.peg_groups.specs.declared.flat.Place.{Place}
use Rattle.peg_groups.specs.declared.side_book.Taken.{Taken}

-- the row of a place with the place's value and time
abbrev pub row_with : Box Part Global → Option ℕ → ℕ → Priced
row_with node value time = record { row = node.value.row; value = value; time = time }

-- the row of a place, where it is there, among other rows
abbrev pub among : Option (Box Part Global) → Option ℕ → ℕ → List Priced → List Priced
among None value time rows = rows
among (Some node) value time rows = insert_by_entry (row_with node value time) rows

-- the rows that are there, in order of entry
abbrev pub rows_in : List Place → List Priced
rows_in [] = []
rows_in (place ∷ places) = among place.node place.value place.time (rows_in places)

-- the row of a node is that of the place
pub record IsNodeOf (place : Place) (node : Part) : Type 0 where
  pub key_is : node.row.key ≡ place.key
  pub cap_is : node.row.cap ≡ place.cap
  pub entry_is : node.row.entry ≡ place.entry
  pub alone : IsLeaf node

-- what holds of a place in front of other rows
pub record IsPlace (place : Place) (others : List Priced) : Type 0 where
  pub fits_key : IsKey place.key
  pub early : place.entry ≤ place.time
  pub holds : MatchOption place.node (Unit {0}) (λ node. IsNodeOf place node.value)
  pub apart : MatchOption place.node (Unit {0}) (λ node. IsAbsent node.value.row.entry others)

abbrev pub ArePlaces : List Place → Type 0
ArePlaces [] = Unit {0}
ArePlaces (place ∷ places) = IsPlace place (rows_in places) × ArePlaces places

-- a flat side: its places, the spare ones, the last quote and its event
pub record FlatView : Type 0 where
  pub places : List Place
  pub spare : ℕ
  pub best : Best
  pub event : ℕ

abbrev pub flat_state : FlatView → SideState
flat_state side = record { rows = rows_in side.places; best = side.best; event = side.event }

pub record IsFlat (side : FlatView) : Type 0 where
  pub places : ArePlaces side.places

-- what a place keeps of its row
abbrev pub place_standing : Place → Standing
place_standing place = record { key = place.key; cap = place.cap; entry = place.entry; value = place.value; time = place.time }

-- some place keeps this
pub record KeepsStanding (places : List Place) (standing : Standing) : Type 0 where
  pub i : ℕ
  pub place : Place
  pub at : slice_get places i ≡ Some place
  pub is : place_standing place ≡ standing

-- the place without its row, and with one
abbrev pub without_node : Place → Place
without_node place = record { node = None; key = place.key; cap = place.cap; entry = place.entry; value = place.value; time = place.time }

abbrev pub with_node : Box Part Global → Place → Place
with_node node place = record { node = Some node; key = place.key; cap = place.cap; entry = place.entry; value = place.value; time = place.time }

-- the place of a row that is there, priced anew
abbrev pub priced_anew : ℕ → Best → Place → Place
priced_anew event best place =
    let value = row_value (peg_value place.key best) place.cap in
    if option_eq nat_eq value place.value then place else record { node = place.node; key = place.key; cap = place.cap; entry = place.entry; value = value; time = event }

-- a free place stays as it is
abbrev pub repriced : ℕ → Best → Place → Place
repriced event best place = if is_some place.node then priced_anew event best place else place

-- whether the row of a place is there
abbrev pub is_filled : Place → Bool
is_filled place = is_some place.node

-- the place has a row of this key, cap and entry
pub record IsThere (key : Key) (cap entry : ℕ) (place : Place) : Type 0 where
  pub filled : is_filled place ≡ true
  pub key_is : place.key ≡ key
  pub cap_is : place.cap ≡ cap
  pub entry_is : place.entry ≡ entry

-- the value of a place whose row is there
abbrev pub value_if_there : Option (Box Part Global) → Option ℕ → Option ℕ
value_if_there None value = None
value_if_there (Some node) value = value

abbrev pub place_value : Place → Option ℕ
place_value place = value_if_there place.node place.value

-- whether the row of a place goes before that of another one
abbrev pub place_before : Place → Place → Bool
place_before a b = is_ahead_if_active (place_value a) a.time a.entry (place_value b) b.time b.entry

-- the place with this number has an active row, and none of the first n has one that goes before it
pub record IsBestPlace (places : List Place) (n i : ℕ) : Type 0 where
  pub place : Place
  pub at : slice_get places i ≡ Some place
  pub active : (value : ℕ) × (place_value place ≡ Some value)
  pub first : AllByRecursion (λ other. place_before other place ≡ false) (take n places)

abbrev pub BestPlaceUpTo : List Place → ℕ → Option ℕ → Type 0
BestPlaceUpTo places n found = MatchOption found (AllByRecursion (λ place. place_value place ≡ None) (take n places)) (IsBestPlace places n)

-- the row of a key, a cap and an entry was taken out of its place
pub record TakesOut (key : Key) (cap entry : ℕ) (node : Box Part Global) (old new : List Place) : Type 0 where
  pub i : ℕ
  pub place : Place
  pub at : slice_get old i ≡ Some place
  pub there : IsThere key cap entry place
  pub node_is : place.node ≡ Some node
  pub left : new ≡ slice_set old i (without_node place)

-- the first active row was taken out of its place
pub record TakesBest (old new : List Place) (taken : Taken) : Type 0 where
  pub i : ℕ
  pub best : IsBestPlace old (length old) i
  pub node_is : best.place.node ≡ Some taken.node
  pub value_is : taken.value ≡ best.place.value
  pub time_is : taken.time ≡ best.place.time
  pub left : new ≡ slice_set old i (without_node best.place)

-- a row is in a place that kept it
pub record FillsPlace (taken : Taken) (old new : List Place) : Type 0 where
  pub i : ℕ
  pub place : Place
  pub at : slice_get old i ≡ Some place
  pub kept : place_standing place ≡ standing_of (taken_row taken)
  pub left : new ≡ slice_set old i (with_node taken.node place)
