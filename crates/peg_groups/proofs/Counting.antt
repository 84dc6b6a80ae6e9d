-- How many rows a side has, and that there are few.
use Rattle.std.proofs.Common.{◌≡◌, ℕ, suc, ◌+◌, ◌^◌, ◌<◌, ◌≤◌, true, false, cond, ltb, eqb, List, [], ◌∷◌, length, Some, refl, ap, arith}
use Rattle.std.specs.List.{AllByRecursion}
use Rattle.venue_words.specs.Retime.{reprice}
use Rattle.venue_words.specs.ListLaws.{all_weaken}
use Rattle.venue_words.specs.declared.price.Best.{Best}
use Rattle.venue_words.specs.declared.row.Key.{Key}
use Rattle.venue_words.specs.declared.row.Priced.{Priced}
use Rattle.venue_words.specs.declared.row.Row.{Row}
use Rattle.venue_words.specs.Rows.{IsByEntry, insert_by_entry, row_by_entry, without_entry}
use Rattle.peg_groups.specs.Groups.{rows_of, IsRowOf, AreGroups}
use Rattle.peg_groups.specs.declared.group.Group.{Group}
use Rattle.peg_groups.proofs.GroupSteps.{by_entry_groups}
use Rattle.peg_groups.proofs.Merged.{each_merged}

pub length_insert : (p : Priced) (rows : List Priced) → length (insert_by_entry p rows) ≡ suc (length rows)
length_insert p [] = refl
length_insert p (f ∷ rows) =
    elim (ltb p.row.entry f.row.entry) as (λ v. length (cond v (p ∷ f ∷ rows) (f ∷ insert_by_entry p rows)) ≡ suc (suc (length rows))) [
      | true ↦ refl
      | false ↦ ap suc (length_insert p rows)
    ]

pub length_without : (entry : ℕ) (rows : List Priced) (row : Priced) → row_by_entry entry rows ≡ Some row → suc (length (without_entry entry rows)) ≡ length rows
length_without entry [] row h = cc
length_without entry (f ∷ rows) row h =
    (elim (eqb f.row.entry entry) as (λ v. cond v (Some f) (row_by_entry entry rows) ≡ Some row → suc (length (cond v rows (f ∷ without_entry entry rows))) ≡ suc (length rows)) [
      | true ↦ λ k. refl
      | false ↦ λ k. ap suc (length_without entry rows row k)
    ]) h

pub length_reprice : (event : ℕ) (best : Best) (rows : List Priced) → length (reprice event best rows) ≡ length rows
unfolding reprice
length_reprice event best [] = refl
length_reprice event best (p ∷ rows) = ap suc (length_reprice event best rows)

-- rows of different entries below a number
few_from : (low : ℕ) (rows : List Priced) → low ≤ 2 ^ 32 → AllByRecursion (λ p. low ≤ p.row.entry) rows → AllByRecursion (λ p. p.row.entry < 2 ^ 32) rows → IsByEntry rows → low + length rows ≤ 2 ^ 32
few_from low [] fits above small o = omega arith
few_from low (p ∷ rows) fits above small o =
    let here : low ≤ p.row.entry = above.0 in
    let end : p.row.entry < 2 ^ 32 = small.0 in
    let rest : suc p.row.entry + length rows ≤ 2 ^ 32 = few_from (suc p.row.entry) rows (omega arith) (all_weaken {A = Priced} (λ later. p.row.entry < later.row.entry) (λ later. suc p.row.entry ≤ later.row.entry) (λ later h. omega arith) rows o.0) small.1 o.1 in
    omega arith

all_above : (rows : List Priced) → AllByRecursion (λ p. 0 ≤ p.row.entry) rows
all_above [] = tt
all_above (p ∷ rows) = (omega arith, all_above rows)

pub few_rows : (rows : List Priced) → AllByRecursion (λ p. p.row.entry < 2 ^ 32) rows → IsByEntry rows → length rows ≤ 2 ^ 32
few_rows rows small o = let h : 0 + length rows ≤ 2 ^ 32 = few_from 0 rows (omega arith) (all_above rows) small o in omega arith

small_rows : (best : Best) (event : ℕ) (es : List (Key × Group)) → AreGroups best event es → AllByRecursion (λ p. p.row.entry < 2 ^ 32) (rows_of es)
small_rows best event [] a = tt
small_rows best event (e ∷ es) a =
    each_merged (λ p. p.row.entry < 2 ^ 32) e.1.moves e.1.tree (rows_of es) (all_weaken {A = Row} (IsRowOf e.0) (λ row. row.entry < 2 ^ 32) (λ row r. r.small) e.1.tree a.0.rows) (small_rows best event es a.3)

-- the rows of a side of groups
pub few_in_groups : (best : Best) (event : ℕ) (es : List (Key × Group)) → AreGroups best event es → length (rows_of es) ≤ 2 ^ 32
few_in_groups best event es a = few_rows (rows_of es) (small_rows best event es a) (by_entry_groups best event es a)
