-- Where a pair stands among rows in order.
use Rattle.std.proofs.Common.{◌≡◌, ◌≢◌, ℕ, ◌<◌, ◌≤◌, Bool, true, false, cond, ◌&&◌, ◌||◌, eqb, List, [], ◌∷◌, ◌++◌, refl, ap, ◌∙◌, arith, Some, None, inl, inr}
use Rattle.std.proofs.lemmas.Bool.{eq-eqb, ne_eqb, cases_eq, and_left, and_right, and_from}
use Rattle.std.specs.List.{AllByRecursion}
use Rattle.venue_words.specs.ListLaws.{all_weaken}
use Rattle.venue_words.specs.declared.row.Row.{Row}
use Rattle.limit_tree.specs.Order.{pair_rank, row_rank, IsAt, IsOrdered, without_row, row_at, is_held}
use Rattle.limit_tree.proofs.InOrder.{ordered_back}
use Rattle.limit_tree.proofs.Inserting.{before_middle, IsSplit}

-- the test that the look-ups make at a row
abbrev pub tests : ℕ → ℕ → Row → Bool
tests cap entry row = eqb row.cap cap && eqb row.entry entry

-- each row has another place
abbrev pub AreOther : ℕ → ℕ → List Row → Type 0
AreOther cap entry rows = AllByRecursion (λ row. row_rank row ≢ pair_rank cap entry) rows

-- at another place the test fails
pub tests-other : (cap entry : ℕ) (row : Row) → row_rank row ≢ pair_rank cap entry → tests cap entry row ≡ false
tests-other cap entry row other =
    elim (cases_eq row.cap cap) [
      | inr differs ↦ and_left _ _ (ne_eqb row.cap cap differs)
      | inl same ↦ and_right _ _ (ne_eqb row.entry entry (λ e. other (omega (arith, same, e))))
    ]

pub tests-same : (cap entry : ℕ) (row : Row) → IsAt cap entry row → tests cap entry row ≡ true
tests-same cap entry row h = and_from _ _ (eq-eqb row.cap cap h.0) (eq-eqb row.entry entry h.1)

pub row_at-skip : (cap entry : ℕ) (front rest : List Row) → AreOther cap entry front → row_at cap entry (front ++ rest) ≡ row_at cap entry rest
row_at-skip cap entry [] rest o = refl
row_at-skip cap entry (row ∷ front) rest o = rw (tests-other cap entry row o.0) (row_at-skip cap entry front rest o.1)

pub without-skip : (cap entry : ℕ) (front rest : List Row) → AreOther cap entry front → without_row cap entry (front ++ rest) ≡ front ++ without_row cap entry rest
without-skip cap entry [] rest o = refl
without-skip cap entry (row ∷ front) rest o = rw (tests-other cap entry row o.0) (ap (λ rows. row ∷ rows) (without-skip cap entry front rest o.1))

pub held-skip : (cap entry : ℕ) (front rest : List Row) → AreOther cap entry front → is_held cap entry (front ++ rest) ≡ is_held cap entry rest
held-skip cap entry [] rest o = refl
held-skip cap entry (row ∷ front) rest o = rw (tests-other cap entry row o.0) (held-skip cap entry front rest o.1)

row_at-none : (cap entry : ℕ) (rows : List Row) → AreOther cap entry rows → row_at cap entry rows ≡ None
row_at-none cap entry [] o = refl
row_at-none cap entry (row ∷ rows) o = rw (tests-other cap entry row o.0) (row_at-none cap entry rows o.1)

without-none : (cap entry : ℕ) (rows : List Row) → AreOther cap entry rows → without_row cap entry rows ≡ rows
without-none cap entry [] o = refl
without-none cap entry (row ∷ rows) o = rw (tests-other cap entry row o.0) (ap (λ others. row ∷ others) (without-none cap entry rows o.1))

held-none : (cap entry : ℕ) (rows : List Row) → AreOther cap entry rows → is_held cap entry rows ≡ false
held-none cap entry [] o = refl
held-none cap entry (row ∷ rows) o = rw (tests-other cap entry row o.0) (held-none cap entry rows o.1)

pub row_at-stop : (cap entry : ℕ) (front rest : List Row) → AreOther cap entry rest → row_at cap entry (front ++ rest) ≡ row_at cap entry front
row_at-stop cap entry [] rest o = row_at-none cap entry rest o
row_at-stop cap entry (row ∷ front) rest o = ap (λ found. cond (tests cap entry row) (Some row) found) (row_at-stop cap entry front rest o)

pub without-stop : (cap entry : ℕ) (front rest : List Row) → AreOther cap entry rest → without_row cap entry (front ++ rest) ≡ without_row cap entry front ++ rest
without-stop cap entry [] rest o = without-none cap entry rest o
without-stop cap entry (row ∷ front) rest o =
    elim (tests cap entry row) as (λ v. cond v (front ++ rest) (row ∷ without_row cap entry (front ++ rest)) ≡ cond v front (row ∷ without_row cap entry front) ++ rest) [
      | true ↦ refl
      | false ↦ ap (λ rows. row ∷ rows) (without-stop cap entry front rest o)
    ]

pub held-stop : (cap entry : ℕ) (front rest : List Row) → AreOther cap entry rest → is_held cap entry (front ++ rest) ≡ is_held cap entry front
held-stop cap entry [] rest o = held-none cap entry rest o
held-stop cap entry (row ∷ front) rest o = ap (λ found. tests cap entry row || found) (held-stop cap entry front rest o)

-- the rows from a row on have other places than an earlier one
later_other : (cap entry : ℕ) (front : List Row) (row : Row) (back : List Row) → pair_rank cap entry < row_rank row → IsOrdered (front ++ row ∷ back) → AreOther cap entry (row ∷ back)
later_other cap entry front row back h o =
    let behind = ordered_back front (row ∷ back) o in
    ((λ e. omega arith), all_weaken {A = Row} (λ later. row_rank row < row_rank later) (λ later. row_rank later ≢ pair_rank cap entry) (λ later k e. omega arith) back behind.1)

-- the rows in front of a row have other places than it or a later one
earlier_other : (cap entry : ℕ) (front : List Row) (row : Row) (back : List Row) → row_rank row ≤ pair_rank cap entry → IsOrdered (front ++ row ∷ back) → AreOther cap entry front
earlier_other cap entry front row back h o =
    all_weaken {A = Row} (λ earlier. row_rank earlier < row_rank row) (λ earlier. row_rank earlier ≢ pair_rank cap entry) (λ earlier k e. omega arith) front (before_middle front row back o)

-- what the three look-ups find on the left of a row
pub record IsLeft (cap entry : ℕ) (rows front : List Row) (row : Row) (back : List Row) : Type 0 where
  pub found : row_at cap entry rows ≡ row_at cap entry front
  pub others : without_row cap entry rows ≡ without_row cap entry front ++ row ∷ back
  pub held : is_held cap entry rows ≡ is_held cap entry front

pub goes_left : {rows front back : List Row} {row : Row} (cap entry : ℕ) → IsSplit rows front row back → pair_rank cap entry < row_rank row → IsLeft cap entry rows front row back
goes_left {rows} {front} {back} {row} cap entry s h =
    let o = later_other cap entry front row back h s.ordered in
    record {
      found = rw s.is (row_at-stop cap entry front (row ∷ back) o);
      others = rw s.is (without-stop cap entry front (row ∷ back) o);
      held = rw s.is (held-stop cap entry front (row ∷ back) o);
    }

-- on the right of it
pub record IsRight (cap entry : ℕ) (rows front : List Row) (row : Row) (back : List Row) : Type 0 where
  pub found : row_at cap entry rows ≡ row_at cap entry back
  pub others : without_row cap entry rows ≡ front ++ row ∷ without_row cap entry back
  pub held : is_held cap entry rows ≡ is_held cap entry back

pub goes_right : {rows front back : List Row} {row : Row} (cap entry : ℕ) → IsSplit rows front row back → row_rank row < pair_rank cap entry → IsRight cap entry rows front row back
goes_right {rows} {front} {back} {row} cap entry s h =
    let o = earlier_other cap entry front row back (omega arith) s.ordered in
    let here = tests-other cap entry row (λ e. omega arith) in
    record {
      found = rw s.is (row_at-skip cap entry front (row ∷ back) o ∙ rw here refl);
      others = rw s.is (without-skip cap entry front (row ∷ back) o ∙ rw here refl);
      held = rw s.is (held-skip cap entry front (row ∷ back) o ∙ rw here refl);
    }

-- and at the row
pub record IsHere (cap entry : ℕ) (rows front : List Row) (row : Row) (back : List Row) : Type 0 where
  pub found : row_at cap entry rows ≡ Some row
  pub others : without_row cap entry rows ≡ front ++ back
  pub held : is_held cap entry rows ≡ true

pub stays_here : {rows front back : List Row} {row : Row} (cap entry : ℕ) → IsSplit rows front row back → IsAt cap entry row → IsHere cap entry rows front row back
stays_here {rows} {front} {back} {row} cap entry s h =
    let o = earlier_other cap entry front row back (omega (arith, h.0, h.1)) s.ordered in
    let here = tests-same cap entry row h in
    record {
      found = rw s.is (row_at-skip cap entry front (row ∷ back) o ∙ rw here refl);
      others = rw s.is (without-skip cap entry front (row ∷ back) o ∙ rw here refl);
      held = rw s.is (held-skip cap entry front (row ∷ back) o ∙ rw here refl);
    }

all_without : (P : Row → Type 0) (cap entry : ℕ) (rows : List Row) → AllByRecursion P rows → AllByRecursion P (without_row cap entry rows)
all_without P cap entry [] a = tt
all_without P cap entry (row ∷ rows) a =
    elim (tests cap entry row) as (λ v. AllByRecursion P (cond v rows (row ∷ without_row cap entry rows))) [
      | true ↦ a.1
      | false ↦ (a.0, all_without P cap entry rows a.1)
    ]

pub ordered_without : (cap entry : ℕ) (rows : List Row) → IsOrdered rows → IsOrdered (without_row cap entry rows)
ordered_without cap entry [] o = tt
ordered_without cap entry (row ∷ rows) o =
    elim (tests cap entry row) as (λ v. IsOrdered (cond v rows (row ∷ without_row cap entry rows))) [
      | true ↦ o.2
      | false ↦ (o.0, all_without (λ later. row_rank row < row_rank later) cap entry rows o.1, ordered_without cap entry rows o.2)
    ]

-- the rows that a cut leaves are in order
pub ordered_cut : {rows front back : List Row} {row : Row} (cap entry : ℕ) → IsSplit rows front row back → IsOrdered (without_row cap entry rows)
ordered_cut {rows} cap entry s = ordered_without cap entry rows (rw s.is s.ordered)
