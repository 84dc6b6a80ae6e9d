-- Rows put in order of entry.
use Rattle.std.proofs.Common.{◌≡◌, ◌⊎◌, ℕ, ◌<◌, ◌≤◌, true, false, cond, ltb, eqb, List, [], ◌∷◌, map, Option, Some, refl, ap, sym, arith, inl, inr}
use Rattle.std.proofs.lemmas.Bool.{lt-ltb, le-ltb, ne_eqb, eq-eqb, cases_eq, cases_order}
use Rattle.venue_words.specs.declared.row.Priced.{Priced}
use Rattle.std.specs.List.{AllByRecursion}
use Rattle.venue_words.specs.ListLaws.{all_weaken}
use Rattle.venue_words.specs.Rows.{IsByEntry, IsAbsent, insert_by_entry, row_by_entry, without_entry}
use Rattle.peg_groups.specs.ByEntry.{insert_first}

pub below_or_not : (a b : ℕ) → (a < b) ⊎ (b ≤ a)
below_or_not a b = elim (cases_order a b) [
  | inl same ↦ inr (omega arith)
  | inr (inl less) ↦ inl less
  | inr (inr more) ↦ inr (omega arith)
]

swap_less : (a b : Priced) (rows : List Priced) → a.row.entry < b.row.entry → insert_by_entry a (insert_by_entry b rows) ≡ insert_by_entry b (insert_by_entry a rows)
swap_less a b [] h = rw (lt-ltb a.row.entry b.row.entry h, le-ltb b.row.entry a.row.entry (omega arith)) refl
swap_less a b (f ∷ rows) h =
    elim (below_or_not b.row.entry f.row.entry) [
      | inl b_first ↦ rw (lt-ltb b.row.entry f.row.entry b_first, lt-ltb a.row.entry f.row.entry (omega arith), lt-ltb a.row.entry b.row.entry h, le-ltb b.row.entry a.row.entry (omega arith), lt-ltb b.row.entry f.row.entry b_first) refl
      | inr b_later ↦ elim (below_or_not a.row.entry f.row.entry) [
        | inl a_first ↦ rw (le-ltb b.row.entry f.row.entry b_later, lt-ltb a.row.entry f.row.entry a_first, le-ltb b.row.entry a.row.entry (omega arith), le-ltb b.row.entry f.row.entry b_later) refl
        | inr a_later ↦ rw (le-ltb b.row.entry f.row.entry b_later, le-ltb a.row.entry f.row.entry a_later, le-ltb b.row.entry f.row.entry b_later) (ap (λ (others : List Priced). f ∷ others) (swap_less a b rows h))
      ]
    ]

-- two rows of different entries are put in either order
pub insert_swap : (a b : Priced) (rows : List Priced) → (a.row.entry ≡ b.row.entry → ⊥) → insert_by_entry a (insert_by_entry b rows) ≡ insert_by_entry b (insert_by_entry a rows)
insert_swap a b rows differ = elim (cases_order a.row.entry b.row.entry) [
  | inl same ↦ absurd (differ same)
  | inr (inl less) ↦ swap_less a b rows less
  | inr (inr more) ↦ sym (swap_less b a rows more)
]

pub each_insert : (P : Priced → Type 0) (p : Priced) (rows : List Priced) → P p → AllByRecursion P rows → AllByRecursion P (insert_by_entry p rows)
each_insert P p [] h a = (h, tt)
each_insert P p (f ∷ rows) h a =
    elim (ltb p.row.entry f.row.entry) as (λ v. AllByRecursion P (cond v (p ∷ f ∷ rows) (f ∷ insert_by_entry p rows))) [
      | true ↦ (h, a)
      | false ↦ (a.0, each_insert P p rows h a.1)
    ]

pub each_inserted : (P : Priced → Type 0) (p : Priced) (rows : List Priced) → AllByRecursion P (insert_by_entry p rows) → P p × AllByRecursion P rows
each_inserted P p [] a = a
each_inserted P p (f ∷ rows) a =
    (elim (ltb p.row.entry f.row.entry) as (λ v. AllByRecursion P (cond v (p ∷ f ∷ rows) (f ∷ insert_by_entry p rows)) → P p × AllByRecursion P (f ∷ rows)) [
      | true ↦ λ b. b
      | false ↦ λ b. let r = each_inserted P p rows b.1 in (r.0, (b.0, r.1))
    ]) a

pub by_entry_insert : (p : Priced) (rows : List Priced) → IsByEntry rows → IsAbsent p.row.entry rows → IsByEntry (insert_by_entry p rows)
by_entry_insert p [] o a = (tt, tt)
by_entry_insert p (f ∷ rows) o a =
    elim (below_or_not p.row.entry f.row.entry) [
      | inl less ↦ rw (lt-ltb p.row.entry f.row.entry less) ((less, all_weaken {A = Priced} (λ later. f.row.entry < later.row.entry) (λ later. p.row.entry < later.row.entry) (λ later h. omega arith) rows o.0), o)
      | inr later ↦
          let differ : f.row.entry ≡ p.row.entry → ⊥ = a.0 in
          let less : f.row.entry < p.row.entry = omega (arith, differ) in
          rw (le-ltb p.row.entry f.row.entry later) (each_insert (λ row. f.row.entry < row.row.entry) p rows less o.0, by_entry_insert p rows o.1 a.1)
    ]

-- a row that was put in is taken out again
pub without_inserted : (p : Priced) (rows : List Priced) → IsAbsent p.row.entry rows → without_entry p.row.entry (insert_by_entry p rows) ≡ rows
without_inserted p [] a = rw (eq-eqb p.row.entry p.row.entry refl) refl
without_inserted p (f ∷ rows) a =
    elim (ltb p.row.entry f.row.entry) as (λ v. without_entry p.row.entry (cond v (p ∷ f ∷ rows) (f ∷ insert_by_entry p rows)) ≡ f ∷ rows) [
      | true ↦ rw (eq-eqb p.row.entry p.row.entry refl) refl
      | false ↦ rw (ne_eqb f.row.entry p.row.entry a.0) (ap (λ (others : List Priced). f ∷ others) (without_inserted p rows a.1))
    ]

-- another row is taken out of what stays
pub without_insert : (entry : ℕ) (p : Priced) (rows : List Priced) → (p.row.entry ≡ entry → ⊥) → IsByEntry rows → insert_by_entry p (without_entry entry rows) ≡ without_entry entry (insert_by_entry p rows)
without_insert entry p [] differ o = rw (ne_eqb p.row.entry entry differ) refl
without_insert entry p (f ∷ rows) differ o =
    elim (below_or_not p.row.entry f.row.entry) [
      | inl less ↦ elim (cases_eq f.row.entry entry) [
        | inl here ↦ rw (lt-ltb p.row.entry f.row.entry less, eq-eqb f.row.entry entry here, ne_eqb p.row.entry entry differ) (insert_first p rows (all_weaken {A = Priced} (λ later. f.row.entry < later.row.entry) (λ later. p.row.entry < later.row.entry) (λ later h. omega arith) rows o.0))
        | inr there ↦ rw (lt-ltb p.row.entry f.row.entry less, ne_eqb f.row.entry entry there, ne_eqb p.row.entry entry differ, lt-ltb p.row.entry f.row.entry less) refl
      ]
      | inr later ↦ elim (cases_eq f.row.entry entry) [
        | inl here ↦ rw (le-ltb p.row.entry f.row.entry later, eq-eqb f.row.entry entry here) refl
        | inr there ↦ rw (le-ltb p.row.entry f.row.entry later, ne_eqb f.row.entry entry there, le-ltb p.row.entry f.row.entry later) (ap (λ (others : List Priced). f ∷ others) (without_insert entry p rows differ o.1))
      ]
    ]

pub row_of_inserted : (p : Priced) (rows : List Priced) → IsAbsent p.row.entry rows → row_by_entry p.row.entry (insert_by_entry p rows) ≡ Some p
row_of_inserted p [] a = rw (eq-eqb p.row.entry p.row.entry refl) refl
row_of_inserted p (f ∷ rows) a =
    elim (ltb p.row.entry f.row.entry) as (λ v. row_by_entry p.row.entry (cond v (p ∷ f ∷ rows) (f ∷ insert_by_entry p rows)) ≡ Some p) [
      | true ↦ rw (eq-eqb p.row.entry p.row.entry refl) refl
      | false ↦ rw (ne_eqb f.row.entry p.row.entry a.0) (row_of_inserted p rows a.1)
    ]

pub row_of_insert : (entry : ℕ) (p : Priced) (rows : List Priced) → (p.row.entry ≡ entry → ⊥) → row_by_entry entry (insert_by_entry p rows) ≡ row_by_entry entry rows
row_of_insert entry p [] differ = rw (ne_eqb p.row.entry entry differ) refl
row_of_insert entry p (f ∷ rows) differ =
    elim (ltb p.row.entry f.row.entry) as (λ v. row_by_entry entry (cond v (p ∷ f ∷ rows) (f ∷ insert_by_entry p rows)) ≡ row_by_entry entry (f ∷ rows)) [
      | true ↦ rw (ne_eqb p.row.entry entry differ) refl
      | false ↦ ap (λ (o : Option Priced). cond (eqb f.row.entry entry) (Some f) o) (row_of_insert entry p rows differ)
    ]

-- a change that keeps each entry keeps each row's place
pub map-insert : (f : Priced → Priced) → ((row : Priced) → (f row).row.entry ≡ row.row.entry) → (p : Priced) (rows : List Priced) → map f (insert_by_entry p rows) ≡ insert_by_entry (f p) (map f rows)
map-insert f keeps p [] = refl
map-insert f keeps p (first ∷ rows) =
    let here : (f p).row.entry ≡ p.row.entry = keeps p in
    let there : (f first).row.entry ≡ first.row.entry = keeps first in
    elim (below_or_not p.row.entry first.row.entry) [
      | inl less ↦ rw (lt-ltb p.row.entry first.row.entry less, lt-ltb (f p).row.entry (f first).row.entry (omega arith)) refl
      | inr later ↦ rw (le-ltb p.row.entry first.row.entry later, le-ltb (f p).row.entry (f first).row.entry (omega arith)) (ap (λ (others : List Priced). f first ∷ others) (map-insert f keeps p rows))
    ]
