-- A side of groups, when one group changes.
use Rattle.std.proofs.Common.{◌≡◌, ℕ, zero, suc, true, false, cond, List, [], ◌∷◌, Some, refl, ap, sym, ◌∙◌, inl, inr, slice_get}
use Rattle.indexmap.specs.IndexMap.{set_value_at}
use Rattle.venue_words.specs.declared.price.Best.{Best}
use Rattle.venue_words.specs.declared.row.Key.{Key}
use Rattle.venue_words.specs.declared.row.Row.{Row}
use Rattle.venue_words.specs.declared.row.Priced.{Priced}
use Rattle.std.specs.List.{AllByRecursion}
use Rattle.std.proofs.lemmas.Bool.{false_from_ne_true}
use Rattle.venue_words.specs.ListLaws.{all_weaken}
use Rattle.limit_tree.specs.Order.{insert_row, without_row, row_at, is_held}
use Rattle.move_history.specs.Staircase.{Staircase}
use Rattle.venue_words.specs.Rows.{IsByEntry, IsAbsent, insert_by_entry, row_by_entry, without_entry}
use Rattle.peg_groups.specs.Side.{Standing}
use Rattle.peg_groups.specs.Group.{priced_in}
use Rattle.peg_groups.specs.Groups.{merged, rows_of, AreApart, EachGroup, IsRowOf, IsGroup, AreGroups, HasMoves, FitsGroup, with_rows}
use Rattle.peg_groups.specs.declared.group.Group.{Group}
use Rattle.peg_groups.proofs.Merged.{all_insert, all_without, merged_each, merged_insert, merged_other, by_entry_merged, merged_without_other, merged_without, apart_kept, apart_insert, apart_other, apart_without, row_of_merged, not_held}

-- the group with a number
pub record IsThere (key : Key) (group : Group) (item : Key × Group) : Type 0 where
  pub key_is : item.0 ≡ key
  pub group_is : item.1 ≡ group

pub there : {key : Key} {group : Group} (item : Key × Group) → Some item ≡ Some (key, group) → IsThere key group item
there {key} {group} item h = let e : item ≡ (key, group) = cc in record { key_is = ap (λ (x : Key × Group). x.0) e; group_is = ap (λ (x : Key × Group). x.1) e }

pub each_set : (P : Key → Group → Type 0) (entries : List (Key × Group)) (i : ℕ) (new : Group) → ((key : Key) → (group : Group) → slice_get entries i ≡ Some (key, group) → P key group → P key new) → EachGroup P entries → EachGroup P (set_value_at entries i new)
each_set P [] i new f a = tt
each_set P (e ∷ es) zero new f a = (f e.0 e.1 refl a.0, a.1)
each_set P (e ∷ es) (suc i) new f a = (a.0, each_set P es i new f a.1)

pub groups_map : (P Q : Key → Group → Type 0) → ((key : Key) → (group : Group) → P key group → Q key group) → (entries : List (Key × Group)) → EachGroup P entries → EachGroup Q entries
groups_map P Q f [] a = tt
groups_map P Q f (e ∷ es) a = (f e.0 e.1 a.0, groups_map P Q f es a.1)

pub group_in : (best : Best) (event : ℕ) (entries : List (Key × Group)) (i : ℕ) (key : Key) (group : Group) → AreGroups best event entries → slice_get entries i ≡ Some (key, group) → IsGroup best event key group
group_in best event [] i key group a h = cc
group_in best event (e ∷ es) zero key group a h =
    let t = there e h in
    rw (t.key_is, t.group_is) at a.0
group_in best event (e ∷ es) (suc i) key group a h = group_in best event es i key group a.3 h

pub by_entry_groups : (best : Best) (event : ℕ) (entries : List (Key × Group)) → AreGroups best event entries → IsByEntry (rows_of entries)
by_entry_groups best event [] a = tt
by_entry_groups best event (e ∷ es) a = by_entry_merged e.1.moves e.1.tree (rows_of es) a.1 (by_entry_groups best event es a.3)

-- a row that enters the group with a number
pub rows_put : (best : Best) (event : ℕ) (entries : List (Key × Group)) (i : ℕ) (key : Key) (group : Group) (row : Row) → AreGroups best event entries → slice_get entries i ≡ Some (key, group) → IsAbsent row.entry (rows_of entries) → rows_of (set_value_at entries i (with_rows group (insert_row row group.tree))) ≡ insert_by_entry (priced_in group.moves row) (rows_of entries)
rows_put best event [] i key group row a h f = cc
rows_put best event (e ∷ es) zero key group row a h f =
    let t = there e h in
    let g : group ≡ e.1 = sym t.group_is in
    rw g (merged_insert e.1.moves row e.1.tree (rows_of es) (merged_each (λ p. p.row.entry ≡ row.entry → ⊥) e.1.moves e.1.tree (rows_of es) f).0)
rows_put best event (e ∷ es) (suc i) key group row a h f =
    let p = merged_each (λ p. p.row.entry ≡ row.entry → ⊥) e.1.moves e.1.tree (rows_of es) f in
    ap (λ (all : List Priced). merged e.1.moves e.1.tree all) (rows_put best event es i key group row a.3 h p.1) ∙ merged_other (priced_in group.moves row) e.1.moves e.1.tree (rows_of es) p.0

pub groups_put : (best : Best) (event : ℕ) (entries : List (Key × Group)) (i : ℕ) (key : Key) (group : Group) (row : Row) → AreGroups best event entries → slice_get entries i ≡ Some (key, group) → IsAbsent row.entry (rows_of entries) → IsRowOf key row → AreGroups best event (set_value_at entries i (with_rows group (insert_row row group.tree)))
groups_put best event [] i key group row a h f r = tt
groups_put best event (e ∷ es) zero key group row a h f r =
    let t = there e h in
    let g : group ≡ e.1 = sym t.group_is in
    let k : key ≡ e.0 = sym t.key_is in
    rw g (
      record {
        fits = a.0.fits;
        current = a.0.current;
        latest = a.0.latest;
        changes = a.0.changes;
        rows = all_insert (IsRowOf e.0) row e.1.tree (rw k at r) a.0.rows;
      },
      apart_insert e.1.moves row e.1.tree (rows_of es) f a.1,
      a.2,
      a.3,
    )
groups_put best event (e ∷ es) (suc i) key group row a h f r =
    let p = merged_each (λ p. p.row.entry ≡ row.entry → ⊥) e.1.moves e.1.tree (rows_of es) f in
    (a.0, rw (rows_put best event es i key group row a.3 h p.1) (apart_other (priced_in group.moves row) e.1.moves e.1.tree (rows_of es) p.0 a.1), each_set (λ k _. k ≡ e.0 → ⊥) es i _ (λ k g x y. y) a.2, groups_put best event es i key group row a.3 h p.1 r)

-- a held row of a group is one of all
pub held_entry : (m : Staircase) (cap entry : ℕ) (rows : List Row) (others : List Priced) (n : ℕ) → is_held cap entry rows ≡ true → IsAbsent n (merged m rows others) → entry ≡ n → ⊥
held_entry m cap entry rows others n h a same = not_held cap entry rows (all_weaken {A = Row} (λ r. r.entry ≡ n → ⊥) (λ r. r.entry ≡ entry → ⊥) (λ r f e. f (e ∙ same)) rows (merged_each (λ p. p.row.entry ≡ n → ⊥) m rows others a).0) h

pub held_among : (best : Best) (event : ℕ) (entries : List (Key × Group)) (i : ℕ) (key : Key) (group : Group) (cap entry n : ℕ) → slice_get entries i ≡ Some (key, group) → is_held cap entry group.tree ≡ true → IsAbsent n (rows_of entries) → entry ≡ n → ⊥
held_among best event [] i key group cap entry n h k a same = cc
held_among best event (e ∷ es) zero key group cap entry n h k a same =
    let t = there e h in
    held_entry e.1.moves cap entry e.1.tree (rows_of es) n (rw (← t.group_is) at k) a same
held_among best event (e ∷ es) (suc i) key group cap entry n h k a same = held_among best event es i key group cap entry n h k (merged_each (λ p. p.row.entry ≡ n → ⊥) e.1.moves e.1.tree (rows_of es) a).1 same

-- no row of a first group has the entry of a row of a later one
first_differs : (best : Best) (event : ℕ) (m : Staircase) (rows : List Row) (es : List (Key × Group)) (i : ℕ) (key : Key) (group : Group) (cap entry : ℕ) → AreApart m rows (rows_of es) → slice_get es i ≡ Some (key, group) → is_held cap entry group.tree ≡ true → AllByRecursion (λ r. r.entry ≡ entry → ⊥) rows
first_differs best event m [] es i key group cap entry a h k = tt
first_differs best event m (row ∷ rows) es i key group cap entry a h k =
    ((λ e. held_among best event es i key group cap entry row.entry h k (merged_each (λ p. p.row.entry ≡ row.entry → ⊥) m rows (rows_of es) a.0).1 (sym e)), first_differs best event m rows es i key group cap entry a.1 h k)

pub without_absent : (n entry : ℕ) (rows : List Priced) → IsAbsent n rows → IsAbsent n (without_entry entry rows)
without_absent n entry [] a = tt
without_absent n entry (row ∷ rows) a =
    elim (Rattle.std.proofs.Common.eqb row.row.entry entry) as (λ v. IsAbsent n (cond v rows (row ∷ without_entry entry rows))) [
      | true ↦ a.1
      | false ↦ (a.0, without_absent n entry rows a.1)
    ]

-- a held row that leaves the group with a number
pub rows_cut : (best : Best) (event : ℕ) (entries : List (Key × Group)) (i : ℕ) (key : Key) (group : Group) (cap entry : ℕ) → AreGroups best event entries → slice_get entries i ≡ Some (key, group) → is_held cap entry group.tree ≡ true → rows_of (set_value_at entries i (with_rows group (without_row cap entry group.tree))) ≡ without_entry entry (rows_of entries)
rows_cut best event [] i key group cap entry a h k = cc
rows_cut best event (e ∷ es) zero key group cap entry a h k =
    let t = there e h in
    let g : group ≡ e.1 = sym t.group_is in
    rw g (merged_without e.1.moves cap entry e.1.tree (rows_of es) a.1 (by_entry_groups best event es a.3) (rw g at k))
rows_cut best event (e ∷ es) (suc i) key group cap entry a h k =
    ap (λ (all : List Priced). merged e.1.moves e.1.tree all) (rows_cut best event es i key group cap entry a.3 h k)
    ∙ merged_without_other entry e.1.moves e.1.tree (rows_of es) (first_differs best event e.1.moves e.1.tree es i key group cap entry a.1 h k) a.1 (by_entry_groups best event es a.3)

pub groups_cut : (best : Best) (event : ℕ) (entries : List (Key × Group)) (i : ℕ) (key : Key) (group : Group) (cap entry : ℕ) → AreGroups best event entries → slice_get entries i ≡ Some (key, group) → is_held cap entry group.tree ≡ true → AreGroups best event (set_value_at entries i (with_rows group (without_row cap entry group.tree)))
groups_cut best event [] i key group cap entry a h k = tt
groups_cut best event (e ∷ es) zero key group cap entry a h k =
    let t = there e h in
    let g : group ≡ e.1 = sym t.group_is in
    rw g (
      record {
        fits = a.0.fits;
        current = a.0.current;
        latest = a.0.latest;
        changes = a.0.changes;
        rows = all_without (IsRowOf e.0) cap entry e.1.tree a.0.rows;
      },
      apart_without e.1.moves cap entry e.1.tree (rows_of es) a.1,
      a.2,
      a.3,
    )
groups_cut best event (e ∷ es) (suc i) key group cap entry a h k =
    (a.0, rw (rows_cut best event es i key group cap entry a.3 h k) (apart_kept e.1.moves e.1.moves e.1.tree (rows_of es) (without_entry entry (rows_of es)) (λ n x. without_absent n entry (rows_of es) x) a.1), each_set (λ k _. k ≡ e.0 → ⊥) es i _ (λ k g x y. y) a.2, groups_cut best event es i key group cap entry a.3 h k)

-- the row is found by its entry
pub row_of_cut : (best : Best) (event : ℕ) (entries : List (Key × Group)) (i : ℕ) (key : Key) (group : Group) (cap entry : ℕ) (row : Row) → AreGroups best event entries → slice_get entries i ≡ Some (key, group) → is_held cap entry group.tree ≡ true → row_at cap entry group.tree ≡ Some row → row_by_entry entry (rows_of entries) ≡ Some (priced_in group.moves row)
row_of_cut best event [] i key group cap entry row a h k r = cc
row_of_cut best event (e ∷ es) zero key group cap entry row a h k r =
    let t = there e h in
    let g : group ≡ e.1 = sym t.group_is in
    rw g (row_of_merged e.1.moves cap entry e.1.tree (rows_of es) row a.1 (rw g at r))
row_of_cut best event (e ∷ es) (suc i) key group cap entry row a h k r =
    row_of_others entry e.1.moves e.1.tree (rows_of es) (first_differs best event e.1.moves e.1.tree es i key group cap entry a.1 h k) ∙ row_of_cut best event es i key group cap entry row a.3 h k r where
      row_of_others : (n : ℕ) (m : Staircase) (rows : List Row) (others : List Priced) → AllByRecursion (λ r. r.entry ≡ n → ⊥) rows → row_by_entry n (merged m rows others) ≡ row_by_entry n others
      row_of_others n m [] others f = refl
      row_of_others n m (first ∷ rows) others f = Rattle.peg_groups.specs.Merge.row_of_insert n (priced_in m first) (merged m rows others) f.0 ∙ row_of_others n m rows others f.1

-- the moves of the group of a key
pub has_set : (key : Key) (m : Staircase) (entries : List (Key × Group)) (i : ℕ) (new : Group) → ((k : Key) → (g : Group) → slice_get entries i ≡ Some (k, g) → new.moves ≡ g.moves) → HasMoves key m entries → HasMoves key m (set_value_at entries i new)
has_set key m [] i new f h = absurd h
has_set key m (e ∷ es) zero new f (inl h) = inl (h.0, f e.0 e.1 refl ∙ h.1)
has_set key m (e ∷ es) zero new f (inr h) = inr h
has_set key m (e ∷ es) (suc i) new f (inl h) = inl h
has_set key m (e ∷ es) (suc i) new f (inr h) = inr (has_set key m es i new f h)

pub has_found : (key : Key) (entries : List (Key × Group)) (i : ℕ) (group : Group) → slice_get entries i ≡ Some (key, group) → HasMoves key group.moves entries
has_found key [] i group h = cc
has_found key (e ∷ es) zero group h = let t = there e h in inl (t.key_is, ap (λ (g : Group). g.moves) t.group_is)
has_found key (e ∷ es) (suc i) group h = inr (has_found key es i group h)

pub has_none : (key : Key) (m : Staircase) (entries : List (Key × Group)) → EachGroup (λ k _. k ≡ key → ⊥) entries → HasMoves key m entries → ⊥
has_none key m [] a h = h
has_none key m (e ∷ es) a (inl h) = a.0 h.0
has_none key m (e ∷ es) a (inr h) = has_none key m es a.1 h

none_at : (key : Key) (entries : List (Key × Group)) (i : ℕ) (group : Group) → EachGroup (λ k _. k ≡ key → ⊥) entries → slice_get entries i ≡ Some (key, group) → ⊥
none_at key [] i group a h = cc
none_at key (e ∷ es) zero group a h = a.0 (there e h).key_is
none_at key (e ∷ es) (suc i) group a h = none_at key es i group a.1 h

-- a key has one group
pub only_moves : (best : Best) (event : ℕ) (key : Key) (m : Staircase) (entries : List (Key × Group)) (i : ℕ) (group : Group) → AreGroups best event entries → HasMoves key m entries → slice_get entries i ≡ Some (key, group) → group.moves ≡ m
only_moves best event key m [] i group a h k = absurd h
only_moves best event key m (e ∷ es) zero group a (inl h) k = ap (λ (g : Group). g.moves) (sym (there e k).group_is) ∙ h.1
only_moves best event key m (e ∷ es) zero group a (inr h) k = absurd (has_none key m es (groups_map (λ x _. x ≡ e.0 → ⊥) (λ x _. x ≡ key → ⊥) (λ x g f y. f (y ∙ sym (there e k).key_is)) es a.2) h)
only_moves best event key m (e ∷ es) (suc i) group a (inl h) k = absurd (none_at key es i group (groups_map (λ x _. x ≡ e.0 → ⊥) (λ x _. x ≡ key → ⊥) (λ x g f y. f (y ∙ sym h.0)) es a.2) k)
only_moves best event key m (e ∷ es) (suc i) group a (inr h) k = only_moves best event key m es i group a.3 h k

-- what fits still fits where the moves stay
pub fits_kept : (old new : List (Key × Group)) (standing : Standing) → ((m : Staircase) → HasMoves standing.key m old → HasMoves standing.key m new) → FitsGroup old standing → FitsGroup new standing
fits_kept old new standing f h = record { moves = h.moves; has = f h.moves h.has; least = h.least; value = h.value; time = h.time }

-- a row that none of all has isn't in the group
pub free_in : (entries : List (Key × Group)) (i : ℕ) (key : Key) (group : Group) (cap entry : ℕ) → slice_get entries i ≡ Some (key, group) → IsAbsent entry (rows_of entries) → is_held cap entry group.tree ≡ false
free_in [] i key group cap entry h a = cc
free_in (e ∷ es) zero key group cap entry h a =
    let t = there e h in
    rw (sym t.group_is) (false_from_ne_true _ (not_held cap entry e.1.tree (merged_each (λ p. p.row.entry ≡ entry → ⊥) e.1.moves e.1.tree (rows_of es) a).0))
free_in (e ∷ es) (suc i) key group cap entry h a = free_in es i key group cap entry h (merged_each (λ p. p.row.entry ≡ entry → ⊥) e.1.moves e.1.tree (rows_of es) a).1
