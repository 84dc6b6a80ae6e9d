-- The greatest value of rows, as rows enter and as groups and places are looked at.
use Rattle.std.proofs.Common.{◌≡◌, ℕ, zero, suc, ◌+◌, min, true, false, cond, List, [], ◌∷◌, map, take, nat_lt, Option, Some, None, refl, ap, sym, ◌∙◌, arith, add-one, slice_get}
use Rattle.std.proofs.lemmas.Option.{slice_get-map}
use Rattle.std.specs.Option.{option_map}
use Rattle.std.specs.declared.alloc.Global.{Global}
use Rattle.std.specs.declared.boxed.Box.{Box}
use Rattle.limit_tree.specs.Order.{is_empty, highest_cap}
use Rattle.limit_tree.specs.Part.{Part}
use Rattle.move_history.specs.Staircase.{Staircase}
use Rattle.venue_words.specs.Peg.{row_value}
use Rattle.venue_words.specs.Rows.{insert_by_entry}
use Rattle.venue_words.specs.declared.row.Key.{Key}
use Rattle.venue_words.specs.declared.row.Priced.{Priced}
use Rattle.venue_words.specs.declared.row.Row.{Row}
use Rattle.peg_groups.specs.BestValue.{higher, best_value, best_under, highest_of}
use Rattle.peg_groups.specs.BestValueLaws.{higher-none, higher-assoc, higher-swap}
use Rattle.peg_groups.specs.Flat.{among, place_value, rows_in, value_if_there}
use Rattle.peg_groups.specs.Group.{priced_in, value_from}
use Rattle.peg_groups.specs.Groups.{merged, rows_of}
use Rattle.peg_groups.specs.declared.flat.Place.{Place}
use Rattle.peg_groups.specs.declared.group.Group.{Group}

-- a row that enters
best-insert : (row : Priced) (rows : List Priced) → best_value (insert_by_entry row rows) ≡ higher row.value (best_value rows)
best-insert row [] = refl
best-insert row (first ∷ rows) =
    elim (nat_lt row.row.entry first.row.entry) as (λ b. best_value (cond b (row ∷ first ∷ rows) (first ∷ insert_by_entry row rows)) ≡ higher row.value (best_value (first ∷ rows))) [
      | true ↦ refl
      | false ↦ ap (higher first.value) (best-insert row rows) ∙ higher-swap first.value row.value (best_value rows)
    ]

-- the rows of a group among others
best-merged : (m : Staircase) (rows : List Row) (others : List Priced) → best_value (merged m rows others) ≡ higher (best_under (value_from m.current) rows) (best_value others)
best-merged m [] others = refl
best-merged m (row ∷ rows) others =
    best-insert (priced_in m row) (merged m rows others)
    ∙ ap (higher (row_value (value_from m.current) row.cap)) (best-merged m rows others)
    ∙ sym (higher-assoc (row_value (value_from m.current) row.cap) (best_under (value_from m.current) rows) (best_value others))

-- the greatest value of a row of a group
abbrev pub group_best : Key × Group → Option ℕ
group_best item = best_under (value_from item.1.moves.current) item.1.tree

pub best-groups : (entries : List (Key × Group)) → best_value (rows_of entries) ≡ highest_of (map group_best entries)
best-groups [] = refl
best-groups (e ∷ es) = best-merged e.1.moves e.1.tree (rows_of es) ∙ ap (higher (group_best e)) (best-groups es)

best-among : (node : Option (Box Part Global)) (value : Option ℕ) (time : ℕ) (rows : List Priced) → best_value (among node value time rows) ≡ higher (value_if_there node value) (best_value rows)
best-among None value time rows = refl
best-among (Some node) value time rows = best-insert (record { row = node.value.row; value = value; time = time }) rows

pub best-places : (places : List Place) → best_value (rows_in places) ≡ highest_of (map place_value places)
best-places [] = refl
best-places (p ∷ ps) = best-among p.node p.value p.time (rows_in ps) ∙ ap (higher (place_value p)) (best-places ps)

-- one value more is looked at
highest-next : (values : List (Option ℕ)) (i : ℕ) (value : Option ℕ) → slice_get values i ≡ Some value → highest_of (take (suc i) values) ≡ higher (highest_of (take i values)) value
highest-next [] i value h = cc
highest-next (v ∷ vs) zero value h = let e : v ≡ value = cc in higher-none v ∙ e
highest-next (v ∷ vs) (suc i) value h = ap (higher v) (highest-next vs i value h) ∙ sym (higher-assoc v (highest_of (take i vs)) value)

pub highest-more : {A : Type 0} (f : A → Option ℕ) (items : List A) (i : ℕ) (item : A) → slice_get items i ≡ Some item → highest_of (take (i + 1) (map f items)) ≡ higher (highest_of (take i (map f items))) (f item)
highest-more f items i item h = rw add-one (highest-next (map f items) i (f item) (slice_get-map f items i ∙ ap (option_map f) h))

-- under no value no row is active
under-none : (rows : List Row) → best_under None rows ≡ None
under-none [] = refl
under-none (row ∷ rows) = under-none rows

-- under a value the row of the greatest cap has the greatest
under-some : (value : ℕ) (row : Row) (rows : List Row) → best_under (Some value) (row ∷ rows) ≡ Some (min value (highest_cap (row ∷ rows)))
under-some value row [] = ap Some (omega arith)
under-some value row (next ∷ rows) = ap (higher (Some (min value row.cap))) (under-some value next rows) ∙ ap Some (omega arith)

pub under_cap : (value : Option ℕ) (rows : List Row) → is_empty rows ≡ false → best_under value rows ≡ row_value value (highest_cap rows)
under_cap value [] h = cc
under_cap None (row ∷ rows) h = under-none rows
under_cap (Some value) (row ∷ rows) h = under-some value row rows
