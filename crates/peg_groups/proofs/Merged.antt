-- The rows of groups, when a group gets or loses a row.
use Rattle.std.proofs.Common.{◌≡◌, ℕ, Bool, true, false, cond, ltb, eqb, ◌&&◌, List, [], ◌∷◌, Some, refl, ap, sym, ◌∙◌, subst, inl, inr}
use Rattle.std.proofs.lemmas.Bool.{ne_eqb, eq-eqb, cases_eq, and_parts, eqb-true}
use Rattle.venue_words.specs.declared.row.Row.{Row}
use Rattle.venue_words.specs.declared.row.Priced.{Priced}
use Rattle.std.specs.List.{AllByRecursion}
use Rattle.venue_words.specs.ListLaws.{all_weaken}
use Rattle.limit_tree.specs.Order.{row_rank, insert_row, without_row, row_at, is_held}
use Rattle.move_history.specs.Staircase.{Staircase}
use Rattle.venue_words.specs.Rows.{IsByEntry, IsAbsent, insert_by_entry, row_by_entry, without_entry}
use Rattle.peg_groups.specs.Group.{priced_in}
use Rattle.peg_groups.specs.Groups.{merged, AreApart}
use Rattle.peg_groups.specs.Merge.{insert_swap, each_insert, each_inserted, by_entry_insert, without_inserted, without_insert, row_of_inserted, row_of_insert}

pub all_insert : (P : Row → Type 0) (row : Row) (rows : List Row) → P row → AllByRecursion P rows → AllByRecursion P (insert_row row rows)
all_insert P row [] h a = (h, tt)
all_insert P row (first ∷ rows) h a =
    elim (ltb (row_rank row) (row_rank first)) as (λ v. AllByRecursion P (cond v (row ∷ first ∷ rows) (first ∷ insert_row row rows))) [
      | true ↦ (h, a)
      | false ↦ (a.0, all_insert P row rows h a.1)
    ]

pub all_without : (P : Row → Type 0) (cap entry : ℕ) (rows : List Row) → AllByRecursion P rows → AllByRecursion P (without_row cap entry rows)
all_without P cap entry [] a = tt
all_without P cap entry (row ∷ rows) a =
    elim (eqb row.cap cap && eqb row.entry entry) as (λ v. AllByRecursion P (cond v rows (row ∷ without_row cap entry rows))) [
      | true ↦ a.1
      | false ↦ (a.0, all_without P cap entry rows a.1)
    ]

-- what holds of each row of a group and of each other one
pub each_merged : (P : Priced → Type 0) (m : Staircase) (rows : List Row) (others : List Priced) → AllByRecursion (λ row. P (priced_in m row)) rows → AllByRecursion P others → AllByRecursion P (merged m rows others)
each_merged P m [] others a b = b
each_merged P m (row ∷ rows) others a b = each_insert P (priced_in m row) (merged m rows others) a.0 (each_merged P m rows others a.1 b)

pub merged_each : (P : Priced → Type 0) (m : Staircase) (rows : List Row) (others : List Priced) → AllByRecursion P (merged m rows others) → AllByRecursion (λ row. P (priced_in m row)) rows × AllByRecursion P others
merged_each P m [] others a = (tt, a)
merged_each P m (row ∷ rows) others a =
    let p = each_inserted P (priced_in m row) (merged m rows others) a in
    let q = merged_each P m rows others p.1 in
    ((p.0, q.0), q.1)

-- a row that enters the group
pub merged_insert : (m : Staircase) (row : Row) (rows : List Row) (others : List Priced) → AllByRecursion (λ r. r.entry ≡ row.entry → ⊥) rows → merged m (insert_row row rows) others ≡ insert_by_entry (priced_in m row) (merged m rows others)
merged_insert m row [] others a = refl
merged_insert m row (first ∷ rows) others a =
    elim (ltb (row_rank row) (row_rank first)) as (λ v. merged m (cond v (row ∷ first ∷ rows) (first ∷ insert_row row rows)) others ≡ insert_by_entry (priced_in m row) (merged m (first ∷ rows) others)) [
      | true ↦ refl
      | false ↦ ap (λ (all : List Priced). insert_by_entry (priced_in m first) all) (merged_insert m row rows others a.1) ∙ insert_swap (priced_in m first) (priced_in m row) (merged m rows others) a.0
    ]

-- a row that enters another one
pub merged_other : (p : Priced) (m : Staircase) (rows : List Row) (others : List Priced) → AllByRecursion (λ r. r.entry ≡ p.row.entry → ⊥) rows → merged m rows (insert_by_entry p others) ≡ insert_by_entry p (merged m rows others)
merged_other p m [] others a = refl
merged_other p m (row ∷ rows) others a =
    ap (λ (all : List Priced). insert_by_entry (priced_in m row) all) (merged_other p m rows others a.1) ∙ insert_swap (priced_in m row) p (merged m rows others) a.0

pub by_entry_merged : (m : Staircase) (rows : List Row) (others : List Priced) → AreApart m rows others → IsByEntry others → IsByEntry (merged m rows others)
by_entry_merged m [] others a o = o
by_entry_merged m (row ∷ rows) others a o = by_entry_insert (priced_in m row) (merged m rows others) (by_entry_merged m rows others a.1 o) a.0

-- a row that leaves another group
pub merged_without_other : (entry : ℕ) (m : Staircase) (rows : List Row) (others : List Priced) → AllByRecursion (λ r. r.entry ≡ entry → ⊥) rows → AreApart m rows others → IsByEntry others → merged m rows (without_entry entry others) ≡ without_entry entry (merged m rows others)
merged_without_other entry m [] others a b o = refl
merged_without_other entry m (row ∷ rows) others a b o =
    ap (λ (all : List Priced). insert_by_entry (priced_in m row) all) (merged_without_other entry m rows others a.1 b.1 o)
    ∙ without_insert entry (priced_in m row) (merged m rows others) a.0 (by_entry_merged m rows others b.1 o)

and_false : (x : Bool) → (x && false) ≡ false
and_false true = refl
and_false false = refl

-- a held row's entry, where none of the rows has it
pub not_held : (cap entry : ℕ) (rows : List Row) → AllByRecursion (λ r. r.entry ≡ entry → ⊥) rows → is_held cap entry rows ≡ true → ⊥
not_held cap entry [] a h = cc
not_held cap entry (row ∷ rows) a h = not_held cap entry rows a.1 (rw (ne_eqb row.entry entry a.0, and_false (eqb row.cap cap)) at h)

-- a row that leaves the group
pub merged_without : (m : Staircase) (cap entry : ℕ) (rows : List Row) (others : List Priced) → AreApart m rows others → IsByEntry others → is_held cap entry rows ≡ true → merged m (without_row cap entry rows) others ≡ without_entry entry (merged m rows others)
merged_without m cap entry [] others a o h = cc
merged_without m cap entry (row ∷ rows) others a o h =
    elim (cases_eq row.entry entry) [
      | inl same ↦ elim (cases_eq row.cap cap) [
        | inl here ↦ rw (eq-eqb row.cap cap here, eq-eqb row.entry entry same) (sym (subst (λ (n : ℕ). without_entry n (insert_by_entry (priced_in m row) (merged m rows others)) ≡ merged m rows others) same (without_inserted (priced_in m row) (merged m rows others) a.0)))
        | inr there ↦ absurd (not_held cap entry rows (all_weaken {A = Row} (λ r. r.entry ≡ row.entry → ⊥) (λ r. r.entry ≡ entry → ⊥) (λ r f e. f (e ∙ sym same)) rows (merged_each (λ p. p.row.entry ≡ row.entry → ⊥) m rows others a.0).0) (rw (ne_eqb row.cap cap there) at h))
      ]
      | inr differ ↦
          rw (ne_eqb row.entry entry differ, and_false (eqb row.cap cap))
          (ap (λ (all : List Priced). insert_by_entry (priced_in m row) all) (merged_without m cap entry rows others a.1 o (held_behind row h differ))
          ∙ without_insert entry (priced_in m row) (merged m rows others) differ (by_entry_merged m rows others a.1 o))
    ] where
      held_behind : (first : Row) → is_held cap entry (first ∷ rows) ≡ true → (first.entry ≡ entry → ⊥) → is_held cap entry rows ≡ true
      held_behind first k differ = rw (ne_eqb first.entry entry differ, and_false (eqb first.cap cap)) at k

-- no entry comes in, so the rows stay apart
pub apart_kept : (m n : Staircase) (rows : List Row) (others less : List Priced) → ((e : ℕ) → IsAbsent e others → IsAbsent e less) → AreApart m rows others → AreApart n rows less
apart_kept m n [] others less f a = tt
apart_kept m n (row ∷ rows) others less f a =
    let p = merged_each (λ p. p.row.entry ≡ row.entry → ⊥) m rows others a.0 in
    (each_merged (λ p. p.row.entry ≡ row.entry → ⊥) n rows less p.0 (f row.entry p.1), apart_kept m n rows others less f a.1)

pub apart_insert : (m : Staircase) (row : Row) (rows : List Row) (others : List Priced) → IsAbsent row.entry (merged m rows others) → AreApart m rows others → AreApart m (insert_row row rows) others
apart_insert m row [] others h a = (h, tt)
apart_insert m row (first ∷ rows) others h a =
    let p = each_inserted (λ p. p.row.entry ≡ row.entry → ⊥) (priced_in m first) (merged m rows others) h in
    elim (ltb (row_rank row) (row_rank first)) as (λ v. AreApart m (cond v (row ∷ first ∷ rows) (first ∷ insert_row row rows)) others) [
      | true ↦ (h, a)
      | false ↦ (rw (merged_insert m row rows others (merged_each (λ p. p.row.entry ≡ row.entry → ⊥) m rows others p.1).0) (each_insert (λ p. p.row.entry ≡ first.entry → ⊥) (priced_in m row) (merged m rows others) (λ e. p.0 (sym e)) a.0), apart_insert m row rows others p.1 a.1)
    ]

pub apart_other : (p : Priced) (m : Staircase) (rows : List Row) (others : List Priced) → AllByRecursion (λ r. r.entry ≡ p.row.entry → ⊥) rows → AreApart m rows others → AreApart m rows (insert_by_entry p others)
apart_other p m [] others h a = tt
apart_other p m (row ∷ rows) others h a =
    (rw (merged_other p m rows others h.1) (each_insert (λ q. q.row.entry ≡ row.entry → ⊥) p (merged m rows others) (λ e. h.0 (sym e)) a.0), apart_other p m rows others h.1 a.1)

pub apart_without : (m : Staircase) (cap entry : ℕ) (rows : List Row) (others : List Priced) → AreApart m rows others → AreApart m (without_row cap entry rows) others
apart_without m cap entry [] others a = tt
apart_without m cap entry (row ∷ rows) others a =
    let p = merged_each (λ p. p.row.entry ≡ row.entry → ⊥) m rows others a.0 in
    elim (eqb row.cap cap && eqb row.entry entry) as (λ v. AreApart m (cond v rows (row ∷ without_row cap entry rows)) others) [
      | true ↦ a.1
      | false ↦ (each_merged (λ p. p.row.entry ≡ row.entry → ⊥) m (without_row cap entry rows) others (all_without (λ r. r.entry ≡ row.entry → ⊥) cap entry rows p.0) p.1, apart_without m cap entry rows others a.1)
    ]

-- the row of a pair is found by its entry
pub row_of_merged : (m : Staircase) (cap entry : ℕ) (rows : List Row) (others : List Priced) (row : Row) → AreApart m rows others → row_at cap entry rows ≡ Some row → row_by_entry entry (merged m rows others) ≡ Some (priced_in m row)
row_of_merged m cap entry [] others row a h = cc
row_of_merged m cap entry (first ∷ rows) others row a h =
    (elim (eqb first.cap cap && eqb first.entry entry) as (λ v. (eqb first.cap cap && eqb first.entry entry) ≡ v → cond v (Some first) (row_at cap entry rows) ≡ Some row → row_by_entry entry (insert_by_entry (priced_in m first) (merged m rows others)) ≡ Some (priced_in m row)) [
      | true ↦ λ e k.
          let same : first.entry ≡ entry = eqb-true _ _ (and_parts (eqb first.cap cap) (eqb first.entry entry) e).1 in
          let is : first ≡ row = some_row k in
          subst (λ (n : ℕ). row_by_entry n (insert_by_entry (priced_in m first) (merged m rows others)) ≡ Some (priced_in m row)) same (row_of_inserted (priced_in m first) (merged m rows others) a.0 ∙ ap (λ (r : Row). Some (priced_in m r)) is)
      | false ↦ λ e k.
          let later : row_by_entry entry (merged m rows others) ≡ Some (priced_in m row) = row_of_merged m cap entry rows others row a.1 k in
          row_of_insert entry (priced_in m first) (merged m rows others) (λ same. absent_found first.entry entry (merged m rows others) (priced_in m row) a.0 later same) ∙ later
    ] refl) h where
      some_row : {x y : Row} → Some x ≡ Some y → x ≡ y
      some_row e = cc

      absent_found : (entry n : ℕ) (all : List Priced) (p : Priced) → IsAbsent entry all → row_by_entry n all ≡ Some p → entry ≡ n → ⊥
      absent_found entry n [] p x y z = cc
      absent_found entry n (q ∷ all) p x y z = absent_found entry n all p x.1 (rw (ne_eqb q.row.entry n (λ k. x.0 (k ∙ sym z))) at y) z
