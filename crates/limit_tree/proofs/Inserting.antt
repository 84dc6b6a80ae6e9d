-- A row that enters among rows in order.
use Rattle.std.proofs.Common.{◌≡◌, ◌≢◌, ℕ, ◌<◌, ◌≤◌, Bool, true, false, cond, ltb, eqb, ◌&&◌, ◌||◌, List, [], ◌∷◌, ◌++◌, length, refl, ap, sym, ◌∙◌, arith, length-append}
use Rattle.std.proofs.lemmas.Bool.{ltb-true, ltb-false, lt-ltb, le-ltb, eq-eqb}
use Rattle.std.specs.List.{AllByRecursion}
use Rattle.venue_words.specs.ListLaws.{all_weaken}
use Rattle.venue_words.specs.declared.row.Row.{Row}
use Rattle.limit_tree.specs.Order.{row_rank, IsOrdered, HasShortNumbers, IsFree, insert_row, is_held}
use Rattle.limit_tree.proofs.InOrder.{all_back}

or_second : (a b : Bool) → (a || b) ≡ false → b ≡ false
or_second true b h = cc
or_second false b h = h

-- two tests that mean the same
pub ltb-same : (a b c d : ℕ) → (a < b → c < d) → (b ≤ a → d ≤ c) → ltb a b ≡ ltb c d
ltb-same a b c d less more =
    elim (ltb a b) as (λ v. ltb a b ≡ v → v ≡ ltb c d) [
      | true ↦ λ e. sym (lt-ltb c d (less (ltb-true a b e)))
      | false ↦ λ e. sym (le-ltb c d (more (ltb-false a b e)))
    ] refl

pub numbered_middle : (front : List Row) (row : Row) (back : List Row) → IsOrdered (front ++ row ∷ back) → HasShortNumbers row
numbered_middle [] row back o = o.0
numbered_middle (first ∷ front) row back o = numbered_middle front row back o.2

-- the rows in front of a row stand before it
pub before_middle : (front : List Row) (row : Row) (back : List Row) → IsOrdered (front ++ row ∷ back) → AllByRecursion (λ earlier. row_rank earlier < row_rank row) front
before_middle [] row back o = tt
before_middle (first ∷ front) row back o = ((all_back (λ later. row_rank first < row_rank later) front (row ∷ back) o.1).0, before_middle front row back o.2)

pub insert_left : (x : Row) (front : List Row) (row : Row) (back : List Row) → row_rank x < row_rank row → insert_row x (front ++ row ∷ back) ≡ insert_row x front ++ row ∷ back
insert_left x [] row back h = rw (lt-ltb (row_rank x) (row_rank row) h)
insert_left x (first ∷ front) row back h =
    elim (ltb (row_rank x) (row_rank first)) as (λ v. cond v (x ∷ first ∷ (front ++ row ∷ back)) (first ∷ insert_row x (front ++ row ∷ back)) ≡ cond v (x ∷ first ∷ front) (first ∷ insert_row x front) ++ row ∷ back) [
      | true ↦ refl
      | false ↦ ap (λ rows. first ∷ rows) (insert_left x front row back h)
    ]

pub insert_right : (x : Row) (front : List Row) (row : Row) (back : List Row) → row_rank row ≤ row_rank x → IsOrdered (front ++ row ∷ back) → insert_row x (front ++ row ∷ back) ≡ front ++ row ∷ insert_row x back
insert_right x [] row back h o = rw (le-ltb (row_rank x) (row_rank row) h)
insert_right x (first ∷ front) row back h o =
    let before : row_rank first < row_rank row = (all_back (λ later. row_rank first < row_rank later) front (row ∷ back) o.1).0 in
    rw (le-ltb (row_rank x) (row_rank first) (omega arith)) (ap (λ rows. first ∷ rows) (insert_right x front row back h o.2))

all_insert : (P : Row → Type 0) (x : Row) (rows : List Row) → P x → AllByRecursion P rows → AllByRecursion P (insert_row x rows)
all_insert P x [] p a = (p, tt)
all_insert P x (first ∷ rows) p a =
    elim (ltb (row_rank x) (row_rank first)) as (λ v. AllByRecursion P (cond v (x ∷ first ∷ rows) (first ∷ insert_row x rows))) [
      | true ↦ (p, a)
      | false ↦ (a.0, all_insert P x rows p a.1)
    ]

-- rows of another pair have another place
pub other_rank : (x row : Row) → HasShortNumbers x → HasShortNumbers row → (row.cap ≡ x.cap → row.entry ≢ x.entry) → row_rank row ≢ row_rank x
other_rank x row m n free = λ e.
    let same_cap : row.cap ≡ x.cap = omega arith in
    let same_entry : row.entry ≡ x.entry = omega arith in
    free same_cap same_entry

pub ordered_insert : (x : Row) (rows : List Row) → HasShortNumbers x → IsFree x.cap x.entry rows → IsOrdered rows → IsOrdered (insert_row x rows)
ordered_insert x [] n free o = (n, tt, tt)
ordered_insert x (first ∷ rows) n free o =
    elim (ltb (row_rank x) (row_rank first)) as (λ v. ltb (row_rank x) (row_rank first) ≡ v → IsOrdered (cond v (x ∷ first ∷ rows) (first ∷ insert_row x rows))) [
      | true ↦ λ e.
          let h : row_rank x < row_rank first = ltb-true (row_rank x) (row_rank first) e in
          (n, (h, all_weaken {A = Row} (λ later. row_rank first < row_rank later) (λ later. row_rank x < row_rank later) (λ later k. omega arith) rows o.1), o)
      | false ↦ λ e.
          let h : row_rank first ≤ row_rank x = ltb-false (row_rank x) (row_rank first) e in
          let other = other_rank x first n o.0 free.0 in
          let less : row_rank first < row_rank x = omega (arith, other) in
          (o.0, all_insert (λ later. row_rank first < row_rank later) x rows less o.1, ordered_insert x rows n free.1 o.2)
    ] refl

-- what is known of the rows behind a link once its node is taken apart
pub record IsSplit (rows front : List Row) (row : Row) (back : List Row) : Type 0 where
  pub is : rows ≡ front ++ row ∷ back
  pub ordered : IsOrdered (front ++ row ∷ back)
  pub shorter : (length front < length rows) × (length back < length rows)

pub split_of : {rows top front back : List Row} {row : Row} → rows ≡ top → top ≡ front ++ row ∷ back → IsOrdered top → IsSplit rows front row back
split_of {rows} {top} {front} {back} {row} e f o =
    record { is = e ∙ f; ordered = rw f at o; shorter = rw (e, f, length-append) (omega arith, omega arith) }

pub free_back : {rows front back : List Row} {row : Row} (cap entry : ℕ) → IsSplit rows front row back → IsFree cap entry rows → IsFree cap entry back
free_back {rows} {front} {back} {row} cap entry s f = (all_back (λ row. row.cap ≡ cap → row.entry ≢ entry) front (row ∷ back) (rw s.is at f)).1

-- a row that goes to the left
pub insert_to_left : {rows front back : List Row} {row : Row} (x : Row) → IsSplit rows front row back → row_rank x < row_rank row → insert_row x rows ≡ insert_row x front ++ row ∷ back
insert_to_left {rows} {front} {back} {row} x s h = rw s.is (insert_left x front row back h)

-- a row that goes to the right
pub insert_to_right : {rows front back : List Row} {row : Row} (x : Row) → IsSplit rows front row back → row_rank row ≤ row_rank x → insert_row x rows ≡ front ++ row ∷ insert_row x back
insert_to_right {rows} {front} {back} {row} x s h = rw s.is (insert_right x front row back h s.ordered)

pub ordered_after : {rows front back : List Row} {row : Row} (x : Row) → HasShortNumbers x → IsSplit rows front row back → IsFree x.cap x.entry rows → IsOrdered (insert_row x rows)
ordered_after {rows} x n s f = ordered_insert x rows n f (rw s.is s.ordered)

-- a pair that is not held is free
pub free_if_not_held : (cap entry : ℕ) (rows : List Row) → is_held cap entry rows ≡ false → IsFree cap entry rows
free_if_not_held cap entry [] h = tt
free_if_not_held cap entry (row ∷ rows) h =
    ((λ e k. let t : (eqb row.cap cap && eqb row.entry entry || is_held cap entry rows) ≡ true = rw (eq-eqb row.cap cap e, eq-eqb row.entry entry k) refl in cc), free_if_not_held cap entry rows (or_second _ _ h))
