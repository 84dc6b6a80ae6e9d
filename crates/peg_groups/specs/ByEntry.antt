-- Rows in order of entry, with one taken out and put back.
use Rattle.std.proofs.Common.{◌≡◌, ℕ, ◌<◌, true, false, cond, eqb, List, [], ◌∷◌, Some, refl, ap, sym, ◌∙◌, subst, arith}
use Rattle.std.proofs.lemmas.Bool.{eqb-true, eqb-false, lt-ltb, le-ltb}
use Rattle.venue_words.specs.declared.row.Priced.{Priced}
use Rattle.peg_groups.specs.Side.{SideState, without, with_row}
use Rattle.std.specs.List.{AllByRecursion}
use Rattle.venue_words.specs.ListLaws.{all_weaken}
use Rattle.venue_words.specs.Rows.{IsByEntry, IsAbsent, insert_by_entry, row_by_entry, without_entry}

-- an entry that was taken out isn't there
pub absent_without : (entry : ℕ) (rows : List Priced) → IsByEntry rows → IsAbsent entry (without_entry entry rows)
absent_without entry [] o = tt
absent_without entry (row ∷ rows) o =
    elim (eqb row.row.entry entry) as (λ v. eqb row.row.entry entry ≡ v → IsAbsent entry (cond v rows (row ∷ without_entry entry rows))) [
      | true ↦ λ e.
          let same = eqb-true row.row.entry entry e in
          all_weaken {A = Priced} (λ later. row.row.entry < later.row.entry) (λ later. later.row.entry ≡ entry → ⊥) (λ later h k. omega arith) rows o.0
      | false ↦ λ e. (eqb-false row.row.entry entry e, absent_without entry rows o.1)
    ] refl

-- a row is found under its own entry
pub row_by_entry-entry : (entry : ℕ) (rows : List Priced) (row : Priced) → row_by_entry entry rows ≡ Some row → row.row.entry ≡ entry
row_by_entry-entry entry [] row h = cc
row_by_entry-entry entry (first ∷ rows) row h =
    (elim (eqb first.row.entry entry) as (λ v. eqb first.row.entry entry ≡ v → cond v (Some first) (row_by_entry entry rows) ≡ Some row → row.row.entry ≡ entry) [
      | true ↦ λ e k. let same : first ≡ row = cc in ap (λ r. r.row.entry) (sym same) ∙ eqb-true first.row.entry entry e
      | false ↦ λ e k. row_by_entry-entry entry rows row k
    ] refl) h

-- what stands behind a first row is behind a found one too
pub later_found : (n entry : ℕ) (rows : List Priced) (row : Priced) → AllByRecursion (λ later. n < later.row.entry) rows → row_by_entry entry rows ≡ Some row → n < row.row.entry
later_found n entry [] row a h = cc
later_found n entry (first ∷ rows) row a h =
    (elim (eqb first.row.entry entry) as (λ v. cond v (Some first) (row_by_entry entry rows) ≡ Some row → n < row.row.entry) [
      | true ↦ λ k. let same : first ≡ row = cc in subst (λ (r : Priced). n < r.row.entry) same a.0
      | false ↦ λ k. later_found n entry rows row a.1 k
    ]) h

pub insert_first : (row : Priced) (rows : List Priced) → AllByRecursion (λ later. row.row.entry < later.row.entry) rows → insert_by_entry row rows ≡ row ∷ rows
insert_first row [] a = refl
insert_first row (first ∷ rows) a = rw (lt-ltb row.row.entry first.row.entry a.0)

-- a row that is put back stands where it stood
pub insert-without : (entry : ℕ) (rows : List Priced) (row : Priced) → IsByEntry rows → row_by_entry entry rows ≡ Some row → insert_by_entry row (without_entry entry rows) ≡ rows
insert-without entry [] row o h = cc
insert-without entry (first ∷ rows) row o h =
    (elim (eqb first.row.entry entry) as (λ v. cond v (Some first) (row_by_entry entry rows) ≡ Some row → insert_by_entry row (cond v rows (first ∷ without_entry entry rows)) ≡ first ∷ rows) [
      | true ↦ λ k. let same : first ≡ row = cc in subst (λ (r : Priced). insert_by_entry r rows ≡ first ∷ rows) same (insert_first first rows o.0)
      | false ↦ λ k.
          let later : first.row.entry < row.row.entry = later_found first.row.entry entry rows row o.0 k in
          rw (le-ltb row.row.entry first.row.entry (omega arith)) (ap (λ others. first ∷ others) (insert-without entry rows row o.1 k))
    ]) h

-- the state is as it was
pub with-without : (side : SideState) (row : Priced) → IsByEntry side.rows → row_by_entry row.row.entry side.rows ≡ Some row → with_row row (without row.row.entry side) ≡ side
with-without side row o h = ap (λ (rows : List Priced). record { rows = rows; best = side.best; event = side.event }) (insert-without row.row.entry side.rows row o h)
