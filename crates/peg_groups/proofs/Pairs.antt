-- The row of a pair in a group.
use Rattle.std.proofs.Common.{◌≡◌, ℕ, zero, suc, Bool, true, false, cond, eqb, ◌&&◌, ◌||◌, List, [], ◌∷◌, Some, None, refl, ap, sym, subst, slice_get}
use Rattle.std.proofs.lemmas.Bool.{eq-eqb, and_parts, eqb-true}
use Rattle.indexmap.specs.IndexMap.{set_value_at}
use Rattle.venue_words.specs.declared.row.Key.{Key}
use Rattle.venue_words.specs.declared.row.Row.{Row}
use Rattle.std.specs.List.{AllByRecursion}
use Rattle.limit_tree.specs.Order.{row_at, is_held, without_row}
use Rattle.peg_groups.specs.declared.group.Group.{Group}
use Rattle.peg_groups.proofs.GroupSteps.{there}

pub held_of : (cap entry : ℕ) (rows : List Row) (row : Row) → row_at cap entry rows ≡ Some row → is_held cap entry rows ≡ true
held_of cap entry [] row h = cc
held_of cap entry (first ∷ rows) row h =
    (elim (eqb first.cap cap && eqb first.entry entry) as (λ v. cond v (Some first) (row_at cap entry rows) ≡ Some row → (v || is_held cap entry rows) ≡ true) [
      | true ↦ λ k. refl
      | false ↦ λ k. held_of cap entry rows row k
    ]) h

pub not_held_of : (cap entry : ℕ) (rows : List Row) → is_held cap entry rows ≡ false → row_at cap entry rows ≡ None
not_held_of cap entry [] h = refl
not_held_of cap entry (first ∷ rows) h =
    (elim (eqb first.cap cap && eqb first.entry entry) as (λ v. (v || is_held cap entry rows) ≡ false → cond v (Some first) (row_at cap entry rows) ≡ None) [
      | true ↦ λ k. cc
      | false ↦ λ k. not_held_of cap entry rows k
    ]) h

pub held_row : (cap entry : ℕ) (rows : List Row) → is_held cap entry rows ≡ true → (row : Row) × (row_at cap entry rows ≡ Some row)
held_row cap entry [] h = cc
held_row cap entry (first ∷ rows) h =
    (elim (eqb first.cap cap && eqb first.entry entry) as (λ v. (v || is_held cap entry rows) ≡ true → (row : Row) × (cond v (Some first) (row_at cap entry rows) ≡ Some row)) [
      | true ↦ λ k. (first, refl)
      | false ↦ λ k. held_row cap entry rows k
    ]) h

pub none_left : (cap entry : ℕ) (rows : List Row) → row_at cap entry rows ≡ None → without_row cap entry rows ≡ rows
none_left cap entry [] h = refl
none_left cap entry (first ∷ rows) h =
    (elim (eqb first.cap cap && eqb first.entry entry) as (λ v. cond v (Some first) (row_at cap entry rows) ≡ None → cond v rows (first ∷ without_row cap entry rows) ≡ first ∷ rows) [
      | true ↦ λ k. cc
      | false ↦ λ k. ap (λ (others : List Row). first ∷ others) (none_left cap entry rows k)
    ]) h

pub set_same : (entries : List (Key × Group)) (i : ℕ) (key : Key) (group : Group) → slice_get entries i ≡ Some (key, group) → set_value_at entries i group ≡ entries
set_same [] i key group h = refl
set_same (e ∷ es) zero key group h = let t = there e h in ap (λ (g : Group). (e.0, g) ∷ es) (sym t.group_is)
set_same (e ∷ es) (suc i) key group h = ap (λ (others : List (Key × Group)). e ∷ others) (set_same es i key group h)

-- a pair's row has the cap and the entry
pub record IsRowAt (cap entry : ℕ) (row : Row) : Type 0 where
  pub cap_is : row.cap ≡ cap
  pub entry_is : row.entry ≡ entry

pub row_at_is : (cap entry : ℕ) (rows : List Row) (row : Row) → row_at cap entry rows ≡ Some row → IsRowAt cap entry row
row_at_is cap entry [] row h = cc
row_at_is cap entry (first ∷ rows) row h =
    (elim (eqb first.cap cap && eqb first.entry entry) as (λ v. (eqb first.cap cap && eqb first.entry entry) ≡ v → cond v (Some first) (row_at cap entry rows) ≡ Some row → IsRowAt cap entry row) [
      | true ↦ λ e k.
          let is : first ≡ row = cc in
          let p = and_parts (eqb first.cap cap) (eqb first.entry entry) e in
          rw (← is) (record { cap_is = eqb-true _ _ p.0; entry_is = eqb-true _ _ p.1 })
      | false ↦ λ e k. row_at_is cap entry rows row k
    ] refl) h

pub row_at_all : (P : Row → Type 0) (cap entry : ℕ) (rows : List Row) (row : Row) → AllByRecursion P rows → row_at cap entry rows ≡ Some row → P row
row_at_all P cap entry [] row a h = cc
row_at_all P cap entry (first ∷ rows) row a h =
    (elim (eqb first.cap cap && eqb first.entry entry) as (λ v. cond v (Some first) (row_at cap entry rows) ≡ Some row → P row) [
      | true ↦ λ k. let is : first ≡ row = cc in subst P is a.0
      | false ↦ λ k. row_at_all P cap entry rows row a.1 k
    ]) h

-- no row of the group is that of the pair
pub no_row_at : (cap entry : ℕ) (rows : List Row) → row_at cap entry rows ≡ None → AllByRecursion (λ row. row.cap ≡ cap → row.entry ≡ entry → ⊥) rows
no_row_at cap entry [] h = tt
no_row_at cap entry (first ∷ rows) h =
    ((λ x y. let k = rw (eq-eqb first.cap cap x, eq-eqb first.entry entry y) at h in cc), no_row_at cap entry rows (behind (eqb first.cap cap && eqb first.entry entry) h)) where
      behind : (v : Bool) → cond v (Some first) (row_at cap entry rows) ≡ None → row_at cap entry rows ≡ None
      behind true k = cc
      behind false k = k
