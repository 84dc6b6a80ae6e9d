-- What the look-ups find on either side of a row.
use Rattle.std.proofs.Common.{◌≡◌, ◌≢◌, ◌⊎◌, ℕ, ◌^◌, ◌<◌, ◌≤◌, min, true, false, eqb, List, [], ◌∷◌, ◌++◌, refl, sym, ◌∙◌, subst, arith, Option, Some, None, inl, inr}
use Rattle.std.proofs.lemmas.Bool.{eqb-true, cases_lt, and_parts, or_cases, or_left, or_right, both_ways, false_from_ne_true, eqb-false}
use Rattle.std.specs.Bool.{MatchBool}
use Rattle.std.specs.List.{AllByRecursion}
use Rattle.venue_words.specs.ListLaws.{all_both, all_weaken, all_append}
use Rattle.venue_words.specs.declared.row.Row.{Row}
use Rattle.limit_tree.specs.Order.{pair_rank, row_rank, IsOrdered, HasShortNumbers, is_held, least_entry}
use Rattle.limit_tree.specs.Looks.{FindsLeast, FindsGreatestBelow, FindsLeastEntry, FindsGreatestCap, IsLeastWhere, IsGreatestCap}
use Rattle.limit_tree.proofs.InOrder.{all_front, all_back, ordered_back}
use Rattle.limit_tree.proofs.Inserting.{before_middle, numbered_middle}
use Rattle.limit_tree.proofs.Searching.{tests, tests-same}

-- a pair that is held in front or behind
pub held_front : (cap entry : ℕ) (front rest : List Row) → is_held cap entry front ≡ true → is_held cap entry (front ++ rest) ≡ true
held_front cap entry [] rest h = absurd (both_ways false refl h)
held_front cap entry (row ∷ front) rest h =
    elim (or_cases (tests cap entry row) (is_held cap entry front) h) [
      | inl here ↦ or_left _ _ here
      | inr later ↦ or_right (tests cap entry row) _ (held_front cap entry front rest later)
    ]

pub held_back : (cap entry : ℕ) (front rest : List Row) → is_held cap entry rest ≡ true → is_held cap entry (front ++ rest) ≡ true
held_back cap entry [] rest h = h
held_back cap entry (row ∷ front) rest h = or_right (tests cap entry row) _ (held_back cap entry front rest h)

pub held_here : (row : Row) (rows : List Row) → is_held row.cap row.entry (row ∷ rows) ≡ true
held_here row rows = or_left _ _ (tests-same row.cap row.entry row (refl, refl))

-- what holds of each row holds of a held pair
pub at_held : (Q : ℕ → ℕ → Type 0) (cap entry : ℕ) (rows : List Row) → AllByRecursion (λ row. Q row.cap row.entry) rows → is_held cap entry rows ≡ true → Q cap entry
at_held Q cap entry [] a h = absurd (both_ways false refl h)
at_held Q cap entry (row ∷ rows) a h =
    elim (or_cases (tests cap entry row) (is_held cap entry rows) h) [
      | inl here ↦
          let parts = and_parts (eqb row.cap cap) (eqb row.entry entry) here in
          subst (λ e. Q cap e) (eqb-true row.entry entry parts.1) (subst (λ c. Q c row.entry) (eqb-true row.cap cap parts.0) a.0)
      | inr later ↦ at_held Q cap entry rows a.1 later
    ]

-- the caps in front of a row are not above it, and those behind it not below it
pub caps_before : (front : List Row) (row : Row) (back : List Row) → IsOrdered (front ++ row ∷ back) → AllByRecursion (λ earlier. earlier.cap ≤ row.cap) front
caps_before front row back o =
    let n = numbered_middle front row back o in
    all_weaken {A = Row} (λ earlier. row_rank earlier < row_rank row) (λ earlier. earlier.cap ≤ row.cap) (λ earlier h. omega (arith, h, n.1)) front (before_middle front row back o)

-- each row has numbers of 32 bits
pub all_numbered : (rows : List Row) → IsOrdered rows → AllByRecursion HasShortNumbers rows
all_numbered [] o = tt
all_numbered (row ∷ rows) o = (o.0, all_numbered rows o.2)

pub caps_behind : (front : List Row) (row : Row) (back : List Row) → IsOrdered (front ++ row ∷ back) → AllByRecursion (λ later. row.cap ≤ later.cap) back
caps_behind front row back o =
    let b = ordered_back front (row ∷ back) o in
    all_both {A = Row} (λ later. row_rank row < row_rank later) HasShortNumbers (λ later. row.cap ≤ later.cap) (λ later h n. omega (arith, h, n.1)) back b.1 (all_numbered back b.2)

-- rows of one cap behind a row have greater entries
entries_behind : (front : List Row) (row : Row) (back : List Row) → IsOrdered (front ++ row ∷ back) → AllByRecursion (λ later. later.cap ≡ row.cap → row.entry ≤ later.entry) back
entries_behind front row back o =
    let b = ordered_back front (row ∷ back) o in
    all_weaken {A = Row} (λ later. row_rank row < row_rank later) (λ later. later.cap ≡ row.cap → row.entry ≤ later.entry) (λ later h e. omega (arith, h, e)) back b.1

-- nothing is found in front of the back
pub least_in_back : (P : ℕ → Type 0) (front : List Row) (row : Row) (back : List Row) (found : Option (ℕ × ℕ)) → AllByRecursion (λ r. P r.cap → ⊥) front → (P row.cap → ⊥) → FindsLeast P back found → FindsLeast P (front ++ row ∷ back) found
least_in_back P front row back None a n f = all_append {A = Row} (λ r. P r.cap → ⊥) front (row ∷ back) a (n, f)
least_in_back P front row back (Some pair) a n f = record {
  fits = f.fits;
  held = held_back pair.0 pair.1 front (row ∷ back) (or_right (tests pair.0 pair.1 row) _ f.held);
  least = all_append {A = Row} (λ r. P r.cap → pair.1 ≤ r.entry) front (row ∷ back) (all_weaken {A = Row} (λ r. P r.cap → ⊥) (λ r. P r.cap → pair.1 ≤ r.entry) (λ r h p. absurd (h p)) front a) ((λ p. absurd (n p)), f.least);
}

-- nothing is found behind the front
pub least_in_front : (P : ℕ → Type 0) (front : List Row) (row : Row) (back : List Row) (found : Option (ℕ × ℕ)) → (P row.cap → ⊥) → AllByRecursion (λ r. P r.cap → ⊥) back → FindsLeast P front found → FindsLeast P (front ++ row ∷ back) found
least_in_front P front row back None n b f = all_append {A = Row} (λ r. P r.cap → ⊥) front (row ∷ back) f (n, b)
least_in_front P front row back (Some pair) n b f = record {
  fits = f.fits;
  held = held_front pair.0 pair.1 front (row ∷ back) f.held;
  least = all_append {A = Row} (λ r. P r.cap → pair.1 ≤ r.entry) front (row ∷ back) f.least ((λ p. absurd (n p)), all_weaken {A = Row} (λ r. P r.cap → ⊥) (λ r. P r.cap → pair.1 ≤ r.entry) (λ r h p. absurd (h p)) back b);
}

-- the row itself is the first of its cap
pub first_is_row : (front : List Row) (row : Row) (back : List Row) → IsOrdered (front ++ row ∷ back) → AllByRecursion (λ r. r.cap ≡ row.cap → ⊥) front → IsLeastWhere (λ cap. cap ≡ row.cap) (front ++ row ∷ back) (row.cap, row.entry)
first_is_row front row back o a = record {
  fits = refl;
  held = held_back row.cap row.entry front (row ∷ back) (held_here row back);
  least = all_append {A = Row} (λ r. r.cap ≡ row.cap → row.entry ≤ r.entry) front (row ∷ back) (all_weaken {A = Row} (λ r. r.cap ≡ row.cap → ⊥) (λ r. r.cap ≡ row.cap → row.entry ≤ r.entry) (λ r h p. absurd (h p)) front a) ((λ e. omega arith), entries_behind front row back o);
}

-- the first of a cap stands in front
pub first_in_front : (front : List Row) (row : Row) (back : List Row) (pair : ℕ × ℕ) → IsOrdered (front ++ row ∷ back) → IsLeastWhere (λ cap. cap ≡ row.cap) front pair → IsLeastWhere (λ cap. cap ≡ row.cap) (front ++ row ∷ back) pair
first_in_front front row back pair o f =
    let earlier : pair_rank pair.0 pair.1 < row_rank row = at_held (λ cap entry. pair_rank cap entry < row_rank row) pair.0 pair.1 front (before_middle front row back o) f.held in
    let less : pair.1 ≤ row.entry = omega (arith, f.fits, earlier) in
    record {
      fits = f.fits;
      held = held_front pair.0 pair.1 front (row ∷ back) f.held;
      least = all_append {A = Row} (λ r. r.cap ≡ row.cap → pair.1 ≤ r.entry) front (row ∷ back) f.least ((λ e. less), all_weaken {A = Row} (λ r. r.cap ≡ row.cap → row.entry ≤ r.entry) (λ r. r.cap ≡ row.cap → pair.1 ≤ r.entry) (λ r h e. let k : row.entry ≤ r.entry = h e in omega arith) back (entries_behind front row back o));
    }

-- the greatest cap below a value that the row reaches
pub greatest_in_front : (value : ℕ) (front : List Row) (row : Row) (back : List Row) (found : Option ℕ) → IsOrdered (front ++ row ∷ back) → value ≤ row.cap → FindsGreatestCap value front found → FindsGreatestCap value (front ++ row ∷ back) found
greatest_in_front value front row back None o h f = all_append {A = Row} (λ r. value ≤ r.cap) front (row ∷ back) f (h, all_weaken {A = Row} (λ r. row.cap ≤ r.cap) (λ r. value ≤ r.cap) (λ r k. omega arith) back (caps_behind front row back o))
greatest_in_front value front row back (Some cap) o h f = record {
  below = f.below;
  some = (f.some.0, held_front cap f.some.0 front (row ∷ back) f.some.1);
  greatest = all_append {A = Row} (λ r. r.cap < value → r.cap ≤ cap) front (row ∷ back) f.greatest ((λ k. absurd (omega arith)), all_weaken {A = Row} (λ r. row.cap ≤ r.cap) (λ r. r.cap < value → r.cap ≤ cap) (λ r k m. absurd (omega arith)) back (caps_behind front row back o));
}

-- the row has the greatest cap below a value that all later ones reach
pub greatest_is_row : (value : ℕ) (front : List Row) (row : Row) (back : List Row) → IsOrdered (front ++ row ∷ back) → row.cap < value → AllByRecursion (λ r. value ≤ r.cap) back → IsGreatestCap value (front ++ row ∷ back) row.cap
greatest_is_row value front row back o h b = record {
  below = h;
  some = (row.entry, held_back row.cap row.entry front (row ∷ back) (held_here row back));
  greatest = all_append {A = Row} (λ r. r.cap < value → r.cap ≤ row.cap) front (row ∷ back) (all_weaken {A = Row} (λ r. r.cap ≤ row.cap) (λ r. r.cap < value → r.cap ≤ row.cap) (λ r k m. k) front (caps_before front row back o)) ((λ k. omega arith), all_weaken {A = Row} (λ r. value ≤ r.cap) (λ r. r.cap < value → r.cap ≤ row.cap) (λ r k m. absurd (omega arith)) back b);
}

-- the greatest cap below a value stands behind
pub greatest_in_back : (value : ℕ) (front : List Row) (row : Row) (back : List Row) (cap : ℕ) → IsOrdered (front ++ row ∷ back) → IsGreatestCap value back cap → IsGreatestCap value (front ++ row ∷ back) cap
greatest_in_back value front row back cap o f =
    let above : row.cap ≤ cap = at_held (λ c b. row.cap ≤ c) cap f.some.0 back (caps_behind front row back o) f.some.1 in
    record {
      below = f.below;
      some = (f.some.0, held_back cap f.some.0 front (row ∷ back) (or_right (tests cap f.some.0 row) _ f.some.1));
      greatest = all_append {A = Row} (λ r. r.cap < value → r.cap ≤ cap) front (row ∷ back) (all_weaken {A = Row} (λ r. r.cap ≤ row.cap) (λ r. r.cap < value → r.cap ≤ cap) (λ r k m. omega arith) front (caps_before front row back o)) ((λ k. above), f.greatest);
    }

-- the least entry of rows is held, where there are rows
pub least_held : (row : Row) (rows : List Row) → AllByRecursion HasShortNumbers (row ∷ rows) → (cap : ℕ) × (is_held cap (least_entry (row ∷ rows)) (row ∷ rows) ≡ true)
least_held row [] n =
    let h : row.entry < 2 ^ 32 = n.0.1 in
    let e : row.entry ≡ least_entry (row ∷ []) = omega arith in
    (row.cap, subst (λ (b : ℕ). is_held row.cap b (row ∷ []) ≡ true) e (held_here row []))
least_held row (second ∷ rows) n =
    elim (cases_lt (least_entry (second ∷ rows)) row.entry) [
      | inl less ↦
          let e : least_entry (second ∷ rows) ≡ least_entry (row ∷ second ∷ rows) = omega arith in
          let later = least_held second rows n.1 in
          (later.0, subst (λ (b : ℕ). is_held later.0 b (row ∷ second ∷ rows) ≡ true) e (or_right (tests later.0 (least_entry (second ∷ rows)) row) _ later.1))
      | inr more ↦
          let e : row.entry ≡ least_entry (row ∷ second ∷ rows) = omega arith in
          (row.cap, subst (λ (b : ℕ). is_held row.cap b (row ∷ second ∷ rows) ≡ true) e (held_here row (second ∷ rows)))
    ]

pub least_below : (rows : List Row) → AllByRecursion (λ row. least_entry rows ≤ row.entry) rows
least_below rows = below rows (least_entry rows) (omega arith) where
  below : (rows : List Row) (n : ℕ) → n ≤ least_entry rows → AllByRecursion (λ row. n ≤ row.entry) rows
  below [] n h = tt
  below (row ∷ rows) n h = (omega arith, below rows n (omega arith))

pub least_above_all : (rows : List Row) (entry : ℕ) → AllByRecursion (λ row. entry ≤ row.entry) rows → entry ≤ 4294967295 → entry ≤ least_entry rows
least_above_all [] entry a h = h
least_above_all (row ∷ rows) entry a h = let k = least_above_all rows entry a.1 h in let m : entry ≤ row.entry = a.0 in omega (arith, k)

-- rows that are all wanted, behind some of which none is
pub entry_from_here : (P : ℕ → Type 0) (front : List Row) (row : Row) (back : List Row) → IsOrdered (front ++ row ∷ back) → AllByRecursion (λ r. P r.cap) (row ∷ back) → AllByRecursion (λ r. P r.cap → ⊥) front → (cap : ℕ) × IsLeastWhere P (front ++ row ∷ back) (cap, least_entry (row ∷ back))
entry_from_here P front row back o wanted none =
    let held = least_held row back (all_numbered (row ∷ back) (ordered_back front (row ∷ back) o)) in (
      held.0,
      record {
        fits = at_held (λ c b. P c) held.0 (least_entry (row ∷ back)) (row ∷ back) wanted held.1;
        held = held_back held.0 (least_entry (row ∷ back)) front (row ∷ back) held.1;
        least = all_append {A = Row} (λ r. P r.cap → least_entry (row ∷ back) ≤ r.entry) front (row ∷ back) (all_weaken {A = Row} (λ r. P r.cap → ⊥) (λ r. P r.cap → least_entry (row ∷ back) ≤ r.entry) (λ r h p. absurd (h p)) front none) (all_weaken {A = Row} (λ r. least_entry (row ∷ back) ≤ r.entry) (λ r. P r.cap → least_entry (row ∷ back) ≤ r.entry) (λ r h p. h) (row ∷ back) (least_below (row ∷ back)));
      },
    )

-- the lesser of what the front has and of the least entry behind it
pub entry_from_both : (P : ℕ → Type 0) (front : List Row) (row : Row) (back : List Row) (entry cap : ℕ) → IsOrdered (front ++ row ∷ back) → AllByRecursion (λ r. P r.cap) (row ∷ back) → IsLeastWhere P front (cap, entry) → (c : ℕ) × IsLeastWhere P (front ++ row ∷ back) (c, min entry (least_entry (row ∷ back)))
entry_from_both P front row back entry cap o wanted f =
    let here = least_entry (row ∷ back) in
    elim (cases_lt here entry) [
      | inl less ↦
          let e : min entry here ≡ here = omega arith in
          let held = least_held row back (all_numbered (row ∷ back) (ordered_back front (row ∷ back) o)) in (
            held.0,
            rw e (record {
              fits = at_held (λ c b. P c) held.0 here (row ∷ back) wanted held.1;
              held = held_back held.0 here front (row ∷ back) held.1;
              least = all_append {A = Row} (λ r. P r.cap → here ≤ r.entry) front (row ∷ back) (all_weaken {A = Row} (λ r. P r.cap → entry ≤ r.entry) (λ r. P r.cap → here ≤ r.entry) (λ r h p. let k : entry ≤ r.entry = h p in omega arith) front f.least) (all_weaken {A = Row} (λ r. here ≤ r.entry) (λ r. P r.cap → here ≤ r.entry) (λ r h p. h) (row ∷ back) (least_below (row ∷ back)));
            }),
          )
      | inr more ↦
          let e : min entry here ≡ entry = omega arith in (
            cap,
            rw e (record {
              fits = f.fits;
              held = held_front cap entry front (row ∷ back) f.held;
              least = all_append {A = Row} (λ r. P r.cap → entry ≤ r.entry) front (row ∷ back) f.least (all_weaken {A = Row} (λ r. here ≤ r.entry) (λ r. P r.cap → entry ≤ r.entry) (λ r h p. omega arith) (row ∷ back) (least_below (row ∷ back)));
            }),
          )
    ]

-- the same pair among the rows behind a row that isn't wanted
pub entry_in_back : (P : ℕ → Type 0) (front : List Row) (row : Row) (back : List Row) (found : Option ℕ) → AllByRecursion (λ r. P r.cap → ⊥) front → (P row.cap → ⊥) → FindsLeastEntry P back found → FindsLeastEntry P (front ++ row ∷ back) found
entry_in_back P front row back None a n f = least_in_back P front row back None a n f
entry_in_back P front row back (Some entry) a n f = (f.0, least_in_back P front row back (Some (f.0, entry)) a n f.1)

-- whether an entry that is below none is one of them, where there are rows
least_is_held_of : (row : Row) (rows : List Row) (entry : ℕ) → IsOrdered (row ∷ rows) → AllByRecursion (λ r. entry ≤ r.entry) (row ∷ rows) → MatchBool (eqb (least_entry (row ∷ rows)) entry) ((cap : ℕ) × (is_held cap entry (row ∷ rows) ≡ true)) ((cap : ℕ) → is_held cap entry (row ∷ rows) ≡ false)
least_is_held_of row rows entry o above =
    elim (eqb (least_entry (row ∷ rows)) entry) as (λ v. eqb (least_entry (row ∷ rows)) entry ≡ v → MatchBool v ((cap : ℕ) × (is_held cap entry (row ∷ rows) ≡ true)) ((cap : ℕ) → is_held cap entry (row ∷ rows) ≡ false)) [
      | true ↦ λ e.
          let held = least_held row rows (all_numbered (row ∷ rows) o) in
          (held.0, subst (λ (b : ℕ). is_held held.0 b (row ∷ rows) ≡ true) (eqb-true (least_entry (row ∷ rows)) entry e) held.1)
      | false ↦ λ e cap. false_from_ne_true _ (λ h.
          let less : entry ≤ least_entry (row ∷ rows) = least_above_all (row ∷ rows) entry above (at_held (λ c b. b ≤ 4294967295) cap entry (row ∷ rows) (all_weaken {A = Row} HasShortNumbers (λ r. r.entry ≤ 4294967295) (λ r n. let k : r.entry < 2 ^ 32 = n.1 in omega arith) (row ∷ rows) (all_numbered (row ∷ rows) o)) h) in
          let more : least_entry (row ∷ rows) ≤ entry = at_held (λ c b. least_entry (row ∷ rows) ≤ b) cap entry (row ∷ rows) (least_below (row ∷ rows)) h in
          eqb-false (least_entry (row ∷ rows)) entry e (omega arith))
    ] refl

pub least_is_held : (front : List Row) (row : Row) (back : List Row) (entry : ℕ) → IsOrdered (front ++ row ∷ back) → AllByRecursion (λ r. entry ≤ r.entry) (front ++ row ∷ back) → MatchBool (eqb (least_entry (front ++ row ∷ back)) entry) ((cap : ℕ) × (is_held cap entry (front ++ row ∷ back) ≡ true)) ((cap : ℕ) → is_held cap entry (front ++ row ∷ back) ≡ false)
least_is_held [] row back entry o above = least_is_held_of row back entry o above
least_is_held (first ∷ front) row back entry o above = least_is_held_of first (front ++ row ∷ back) entry o above

-- a held pair is held in front or behind
pub held_cases : (cap entry : ℕ) (front rest : List Row) → is_held cap entry (front ++ rest) ≡ true → (is_held cap entry front ≡ true) ⊎ (is_held cap entry rest ≡ true)
held_cases cap entry [] rest h = inr h
held_cases cap entry (row ∷ front) rest h =
    elim (or_cases (tests cap entry row) (is_held cap entry (front ++ rest)) h) [
      | inl here ↦ inl (or_left _ _ here)
      | inr later ↦ elim (held_cases cap entry front rest later) [ inl a ↦ inl (or_right (tests cap entry row) _ a) | inr b ↦ inr b ]
    ]

-- an entry that the wanted rows have least, seen from a row
pub record HasEntry (P : ℕ → Type 0) (rows : List Row) (entry : ℕ) : Type 0 where
  pub cap : ℕ
  pub is : IsLeastWhere P rows (cap, entry)

-- it stands behind a row that isn't wanted
pub entry_behind : (P : ℕ → Type 0) (front : List Row) (row : Row) (back : List Row) (entry : ℕ) → AllByRecursion (λ r. P r.cap → ⊥) front → (P row.cap → ⊥) → HasEntry P (front ++ row ∷ back) entry → (cap : ℕ) × IsLeastWhere P back (cap, entry)
entry_behind P front row back entry a n h =
    elim (held_cases h.cap entry front (row ∷ back) h.is.held) [
      | inl early ↦ absurd (at_held (λ c b. P c → ⊥) h.cap entry front a early h.is.fits)
      | inr late ↦ elim (or_cases (tests h.cap entry row) (is_held h.cap entry back) late) [
        | inl here ↦ absurd (n (subst P (sym (eqb-true row.cap h.cap (and_parts (eqb row.cap h.cap) (eqb row.entry entry) here).0)) h.is.fits))
        | inr later ↦ (h.cap, record { fits = h.is.fits; held = later; least = (all_back (λ r. P r.cap → entry ≤ r.entry) front (row ∷ back) h.is.least).1 })
      ]
    ]

-- it stands in front of a row that it isn't, where it doesn't stand behind
pub entry_before : (P : ℕ → Type 0) (front : List Row) (row : Row) (back : List Row) (entry : ℕ) → row.entry ≢ entry → ((cap : ℕ) → is_held cap entry back ≡ false) → HasEntry P (front ++ row ∷ back) entry → (cap : ℕ) × IsLeastWhere P front (cap, entry)
entry_before P front row back entry other none h =
    elim (held_cases h.cap entry front (row ∷ back) h.is.held) [
      | inl early ↦ (h.cap, record { fits = h.is.fits; held = early; least = all_front (λ r. P r.cap → entry ≤ r.entry) front (row ∷ back) h.is.least })
      | inr late ↦ elim (or_cases (tests h.cap entry row) (is_held h.cap entry back) late) [
        | inl here ↦ absurd (other (eqb-true row.entry entry (and_parts (eqb row.cap h.cap) (eqb row.entry entry) here).1))
        | inr later ↦ absurd (both_ways _ (none h.cap) later)
      ]
    ]

-- a wanted row that has it
pub entry_at_row : (P : ℕ → Type 0) (front : List Row) (row : Row) (back : List Row) → P row.cap → HasEntry P (front ++ row ∷ back) row.entry → IsLeastWhere P (front ++ row ∷ back) (row.cap, row.entry)
entry_at_row P front row back p h = record { fits = p; held = held_back row.cap row.entry front (row ∷ back) (held_here row back); least = h.is.least }

-- the pair that the front has
pub entry_found_before : (P : ℕ → Type 0) (front : List Row) (row : Row) (back : List Row) (entry cap : ℕ) → HasEntry P (front ++ row ∷ back) entry → IsLeastWhere P front (cap, entry) → IsLeastWhere P (front ++ row ∷ back) (cap, entry)
entry_found_before P front row back entry cap h f = record { fits = f.fits; held = held_front cap entry front (row ∷ back) f.held; least = h.is.least }

-- the pair that the back has
pub entry_found_behind : (P : ℕ → Type 0) (front : List Row) (row : Row) (back : List Row) (entry cap : ℕ) → HasEntry P (front ++ row ∷ back) entry → IsLeastWhere P back (cap, entry) → IsLeastWhere P (front ++ row ∷ back) (cap, entry)
entry_found_behind P front row back entry cap h f = record { fits = f.fits; held = held_back cap entry front (row ∷ back) (or_right (tests cap entry row) _ f.held); least = h.is.least }

-- an entry of wanted rows that the back holds
pub entry_wanted_behind : (P : ℕ → Type 0) (front : List Row) (row : Row) (back : List Row) (entry cap : ℕ) → AllByRecursion (λ r. P r.cap) back → HasEntry P (front ++ row ∷ back) entry → is_held cap entry back ≡ true → (c : ℕ) × IsLeastWhere P back (c, entry)
entry_wanted_behind P front row back entry cap wanted h held = (cap, record { fits = at_held (λ c b. P c) cap entry back wanted held; held = held; least = (all_back (λ r. P r.cap → entry ≤ r.entry) front (row ∷ back) h.is.least).1 })

-- no wanted row behind has a lower entry
pub entry_below_back : (P : ℕ → Type 0) (front : List Row) (row : Row) (back : List Row) (entry : ℕ) → AllByRecursion (λ r. P r.cap) back → HasEntry P (front ++ row ∷ back) entry → AllByRecursion (λ r. entry ≤ r.entry) back
entry_below_back P front row back entry wanted h = all_both {A = Row} (λ r. P r.cap) (λ r. P r.cap → entry ≤ r.entry) (λ r. entry ≤ r.entry) (λ r p f. f p) back wanted (all_back (λ r. P r.cap → entry ≤ r.entry) front (row ∷ back) h.is.least).1

-- the greatest cap below a value, with its first entry
pub greatest_pair : (value : ℕ) (rows : List Row) (cap : ℕ) (found : Option (ℕ × ℕ)) → IsGreatestCap value rows cap → FindsLeast (λ c. c ≡ cap) rows found → FindsGreatestBelow value rows found
greatest_pair value rows cap None g f = absurd (at_held (λ c b. c ≡ cap → ⊥) cap g.some.0 rows f g.some.1 refl)
greatest_pair value rows cap (Some pair) g f = record {
  below = let h = g.below in let e : pair.0 ≡ cap = f.fits in omega arith;
  held = f.held;
  greatest = all_weaken {A = Row} (λ r. r.cap < value → r.cap ≤ cap) (λ r. r.cap < value → r.cap ≤ pair.0) (λ r h k. let m : r.cap ≤ cap = h k in let e : pair.0 ≡ cap = f.fits in omega arith) rows g.greatest;
  least = all_weaken {A = Row} (λ r. r.cap ≡ cap → pair.1 ≤ r.entry) (λ r. r.cap ≡ pair.0 → pair.1 ≤ r.entry) (λ r h k. h (k ∙ f.fits)) rows f.least;
}
