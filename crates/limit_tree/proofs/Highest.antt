-- The greatest cap of rows in order.
use Rattle.std.proofs.Common.{◌≡◌, ◌≢◌, ℕ, ◌≤◌, max, true, false, cond, ltb, eqb, List, [], ◌∷◌, ◌++◌, refl, arith, inl, inr}
use Rattle.std.proofs.lemmas.Bool.{eqb-true, and_parts, cases_eq}
use Rattle.std.specs.List.{AllByRecursion}
use Rattle.venue_words.specs.declared.row.Row.{Row}
use Rattle.limit_tree.specs.Order.{row_rank, IsOrdered, insert_row, without_row, highest_cap}
use Rattle.limit_tree.proofs.Finding.{caps_before}
use Rattle.limit_tree.proofs.Searching.{tests}

pub highest-append : (front back : List Row) → highest_cap (front ++ back) ≡ max (highest_cap front) (highest_cap back)
highest-append [] back = omega arith
highest-append (row ∷ front) back = let h = highest-append front back in omega (arith, h)

-- no cap of these is above a bound
pub highest_at_most : (bound : ℕ) (rows : List Row) → AllByRecursion (λ row. row.cap ≤ bound) rows → highest_cap rows ≤ bound
highest_at_most bound [] a = omega arith
highest_at_most bound (row ∷ rows) a = let h = highest_at_most bound rows a.1 in let k : row.cap ≤ bound = a.0 in omega (arith, h, k)

-- the greatest cap stands at a row or behind it
pub highest_behind : (front : List Row) (row : Row) (back : List Row) → IsOrdered (front ++ row ∷ back) → highest_cap (front ++ row ∷ back) ≡ max row.cap (highest_cap back)
highest_behind front row back o =
    let h = highest_at_most row.cap front (caps_before front row back o) in
    let e = highest-append front (row ∷ back) in
    omega (arith, h, e)

-- a row that enters
pub highest-insert : (x : Row) (rows : List Row) → highest_cap (insert_row x rows) ≡ max (highest_cap rows) x.cap
highest-insert x [] = omega arith
highest-insert x (first ∷ rows) =
    elim (ltb (row_rank x) (row_rank first)) as (λ v. highest_cap (cond v (x ∷ first ∷ rows) (first ∷ insert_row x rows)) ≡ max (highest_cap (first ∷ rows)) x.cap) [
      | true ↦ omega arith
      | false ↦ let h = highest-insert x rows in omega (arith, h)
    ]

-- a row that leaves
highest_without : (cap entry : ℕ) (rows : List Row) → highest_cap (without_row cap entry rows) ≤ highest_cap rows
highest_without cap entry [] = omega arith
highest_without cap entry (row ∷ rows) =
    elim (tests cap entry row) as (λ v. highest_cap (cond v rows (row ∷ without_row cap entry rows)) ≤ highest_cap (row ∷ rows)) [
      | true ↦ omega arith
      | false ↦ let h = highest_without cap entry rows in omega (arith, h)
    ]

-- one whose cap is not the greatest leaves the greatest as it was
pub highest-without : (cap entry : ℕ) (rows : List Row) → cap ≢ highest_cap rows → highest_cap (without_row cap entry rows) ≡ highest_cap rows
highest-without cap entry [] other = refl
highest-without cap entry (row ∷ rows) other =
    elim (tests cap entry row) as (λ v. tests cap entry row ≡ v → highest_cap (cond v rows (row ∷ without_row cap entry rows)) ≡ highest_cap (row ∷ rows)) [
      | true ↦ λ e.
          let same : row.cap ≡ cap = eqb-true row.cap cap (and_parts (eqb row.cap cap) (eqb row.entry entry) e).0 in
          omega (arith, same, other)
      | false ↦ λ e.
          let less = highest_without cap entry rows in
          elim (cases_eq cap (highest_cap rows)) [
            | inl here ↦ omega (arith, here, less, other)
            | inr there ↦ let h = highest-without cap entry rows there in omega (arith, h)
          ]
    ] refl
