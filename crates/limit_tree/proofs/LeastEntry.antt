-- The least entry of rows in a row.
use Rattle.std.proofs.Common.{◌≡◌, ◌≢◌, ℕ, ◌≤◌, min, true, false, cond, ltb, eqb, List, [], ◌∷◌, ◌++◌, refl, inl, inr, sym, ◌∙◌, arith}
use Rattle.std.proofs.lemmas.Bool.{eqb-true, and_parts, cases_eq}
use Rattle.venue_words.specs.declared.row.Row.{Row}
use Rattle.limit_tree.specs.Order.{row_rank, insert_row, without_row, least_entry}
use Rattle.limit_tree.proofs.Searching.{tests}

pub least_entry-fits : (rows : List Row) → least_entry rows ≤ 4294967295
least_entry-fits [] = omega arith
least_entry-fits (row ∷ rows) = let h = least_entry-fits rows in omega arith

pub least_entry-append : (front back : List Row) → least_entry (front ++ back) ≡ min (least_entry front) (least_entry back)
least_entry-append [] back = let h = least_entry-fits back in omega arith
least_entry-append (row ∷ front) back = let h = least_entry-append front back in omega arith

-- a row that enters
pub least_entry-insert : (x : Row) (rows : List Row) → least_entry (insert_row x rows) ≡ min (least_entry rows) x.entry
least_entry-insert x [] = omega arith
least_entry-insert x (first ∷ rows) =
    elim (ltb (row_rank x) (row_rank first)) as (λ v. least_entry (cond v (x ∷ first ∷ rows) (first ∷ insert_row x rows)) ≡ min (least_entry (first ∷ rows)) x.entry) [
      | true ↦ omega arith
      | false ↦ let h = least_entry-insert x rows in omega (arith, h)
    ]

-- a row that leaves
least_without : (cap entry : ℕ) (rows : List Row) → least_entry rows ≤ least_entry (without_row cap entry rows)
least_without cap entry [] = omega arith
least_without cap entry (row ∷ rows) =
    elim (tests cap entry row) as (λ v. least_entry (row ∷ rows) ≤ least_entry (cond v rows (row ∷ without_row cap entry rows))) [
      | true ↦ omega arith
      | false ↦ let h = least_without cap entry rows in omega (arith, h)
    ]

-- one whose entry is not the least leaves the least as it was
pub least_entry-without : (cap entry : ℕ) (rows : List Row) → entry ≢ least_entry rows → least_entry (without_row cap entry rows) ≡ least_entry rows
least_entry-without cap entry [] other = refl
least_entry-without cap entry (row ∷ rows) other =
    elim (tests cap entry row) as (λ v. tests cap entry row ≡ v → least_entry (cond v rows (row ∷ without_row cap entry rows)) ≡ least_entry (row ∷ rows)) [
      | true ↦ λ e.
          let same : row.entry ≡ entry = eqb-true row.entry entry (and_parts (eqb row.cap cap) (eqb row.entry entry) e).1 in
          omega (arith, same, other)
      | false ↦ λ e.
          let more = least_without cap entry rows in
          elim (cases_eq entry (least_entry rows)) [
            | inl here ↦ omega (arith, here, more, other)
            | inr there ↦ let h = least_entry-without cap entry rows there in omega (arith, h)
          ]
    ] refl

-- the least entry at a node, once the row of a pair left one of its sides
pub least_at : {least own now : ℕ} (cap entry : ℕ) (rows front : List Row) (row : Row) (back : List Row) → front ++ row ∷ back ≡ without_row cap entry rows → least ≡ least_entry rows → own ≡ row.entry → (entry ≡ least → now ≡ min (least_entry front) (min own (least_entry back))) → (entry ≢ least → now ≡ least) → now ≡ least_entry (front ++ row ∷ back)
least_at {least} {own} {now} cap entry rows front row back is old at_row renewed kept =
    elim (cases_eq entry least) [
      | inl here ↦ omega (arith, renewed here, at_row, least_entry-append front (row ∷ back))
      | inr there ↦ rw is (kept there ∙ old ∙ sym (least_entry-without cap entry rows (rw old at there)))
    ]
