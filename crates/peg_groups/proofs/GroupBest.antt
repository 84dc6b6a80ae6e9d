-- Which row of a group goes first.
use Rattle.std.proofs.Common.{◌≡◌, ℕ, ◌<◌, ◌≤◌, min, true, false, List, [], ◌∷◌, refl, ap, sym, ◌∙◌, subst, arith, inl, inr}
use Rattle.std.proofs.lemmas.Bool.{cases_order, cases_eq}
use Rattle.venue_words.specs.declared.row.Row.{Row}
use Rattle.venue_words.specs.Priority.{is_ahead}
use Rattle.std.specs.List.{AllByRecursion}
use Rattle.std.proofs.lemmas.Bool.Decides.{nat_tests}
use Rattle.venue_words.specs.ListLaws.{all_both, all_weaken}
use Rattle.limit_tree.specs.Order.{is_held}
use Rattle.limit_tree.specs.Looks.{IsLeastWhere, IsGreatestBelow}
use Rattle.move_history.specs.Staircase.{Staircase, last_change}
use Rattle.peg_groups.specs.Group.{time_in, IsGroupBest, IsNotAfter}

pub later_too : (t e s f u g : ℕ) → IsNotAfter t e s f → IsNotAfter s f u g → IsNotAfter t e u g
later_too t e s f u g a b =
    let p : s ≤ t = a.time in
    let q : u ≤ s = b.time in
    record {
      time = omega arith;
      entry = λ k.
          let m : s ≡ t = omega arith in
          let n : u ≡ s = omega arith in
          let x : f ≤ e = a.entry m in
          let y : g ≤ f = b.entry n in
          omega arith;
    }

-- a lower value doesn't go before
pub lower_value : (v t e w s f : ℕ) → v < w → is_ahead v t e w s f ≡ false
lower_value v t e w s f h = grind (arith, nat_tests)

-- nor does what isn't earlier at the same value
pub same_value_later : (v t e s f : ℕ) → IsNotAfter t e s f → is_ahead v t e v s f ≡ false
same_value_later v t e s f a = let p : s ≤ t = a.time in later_at v t e s f p a.entry where
  later_at : (v t e s f : ℕ) → s ≤ t → (s ≡ t → f ≤ e) → is_ahead v t e v s f ≡ false
  later_at v t e s f p q = elim (cases_eq s t) [
    | inl same ↦ let r : f ≤ e = q same in grind (arith, nat_tests)
    | inr other ↦ let less : s < t = omega (arith, other) in grind (arith, nat_tests)
  ]

-- the rows at the group's value and above it are not before (time, entry), and so none of the group is
pub first_at_value : (m : Staircase) (rows : List Row) (time entry : ℕ) → AllByRecursion (λ row. row.cap ≡ m.current → IsNotAfter (time_in m row.cap row.entry) row.entry time entry) rows → AllByRecursion (λ row. m.current < row.cap → IsNotAfter (time_in m row.cap row.entry) row.entry time entry) rows → AllByRecursion (λ row. is_ahead (min m.current row.cap) (time_in m row.cap row.entry) row.entry m.current time entry ≡ false) rows
first_at_value m rows time entry at above =
    all_both {A = Row} (λ row. row.cap ≡ m.current → IsNotAfter (time_in m row.cap row.entry) row.entry time entry) (λ row. m.current < row.cap → IsNotAfter (time_in m row.cap row.entry) row.entry time entry) (λ row. is_ahead (min m.current row.cap) (time_in m row.cap row.entry) row.entry m.current time entry ≡ false)
    (λ row a b. elim (cases_order row.cap m.current) [
      | inl same ↦ let e : min m.current row.cap ≡ m.current = omega arith in rw e (same_value_later m.current (time_in m row.cap row.entry) row.entry time entry (a same))
      | inr (inl less) ↦ lower_value (min m.current row.cap) (time_in m row.cap row.entry) row.entry m.current time entry (omega arith)
      | inr (inr more) ↦ let e : min m.current row.cap ≡ m.current = omega arith in rw e (same_value_later m.current (time_in m row.cap row.entry) row.entry time entry (b more))
    ]) rows at above

-- the rows at the value, against the one of least entry there
pub after_at : (m : Staircase) (rows : List Row) (pair : ℕ × ℕ) → IsLeastWhere (λ cap. cap ≡ m.current) rows pair → AllByRecursion (λ row. row.cap ≡ m.current → IsNotAfter (time_in m row.cap row.entry) row.entry (time_in m pair.0 pair.1) pair.1) rows
after_at m rows pair f =
    all_weaken {A = Row} (λ row. row.cap ≡ m.current → pair.1 ≤ row.entry) (λ row. row.cap ≡ m.current → IsNotAfter (time_in m row.cap row.entry) row.entry (time_in m pair.0 pair.1) pair.1) (λ row h e.
    let least : pair.1 ≤ row.entry = h e in
    let same : last_change m pair.0 ≡ last_change m row.cap = ap (last_change m) (f.fits ∙ sym e) in
    record { time = omega (arith, same, least); entry = λ k. least }) rows f.least

-- the rows above the value, against the one of least entry there
pub after_above : (m : Staircase) (rows : List Row) (pair : ℕ × ℕ) → ((other : ℕ) → m.current < pair.0 → m.current < other → last_change m other ≡ last_change m pair.0) → IsLeastWhere (λ cap. m.current < cap) rows pair → AllByRecursion (λ row. m.current < row.cap → IsNotAfter (time_in m row.cap row.entry) row.entry (time_in m pair.0 pair.1) pair.1) rows
after_above m rows pair alike f =
    all_weaken {A = Row} (λ row. m.current < row.cap → pair.1 ≤ row.entry) (λ row. m.current < row.cap → IsNotAfter (time_in m row.cap row.entry) row.entry (time_in m pair.0 pair.1) pair.1) (λ row h e.
    let least : pair.1 ≤ row.entry = h e in
    let same : last_change m row.cap ≡ last_change m pair.0 = alike row.cap f.fits e in
    record { time = omega (arith, same, least); entry = λ k. least }) rows f.least

-- what goes first of two goes first of what goes after either
pub after_first : (P : ℕ → Type 0) (m : Staircase) (rows : List Row) (s f u g : ℕ) → IsNotAfter s f u g → AllByRecursion (λ row. P row.cap → IsNotAfter (time_in m row.cap row.entry) row.entry s f) rows → AllByRecursion (λ row. P row.cap → IsNotAfter (time_in m row.cap row.entry) row.entry u g) rows
after_first P m rows s f u g h a = all_weaken {A = Row} (λ row. P row.cap → IsNotAfter (time_in m row.cap row.entry) row.entry s f) (λ row. P row.cap → IsNotAfter (time_in m row.cap row.entry) row.entry u g) (λ row k p. later_too _ _ _ _ _ _ (k p) h) rows a

-- no row has such a cap
pub after_none : (P : ℕ → Type 0) (m : Staircase) (rows : List Row) (u g : ℕ) → AllByRecursion (λ row. P row.cap → ⊥) rows → AllByRecursion (λ row. P row.cap → IsNotAfter (time_in m row.cap row.entry) row.entry u g) rows
after_none P m rows u g a = all_weaken {A = Row} (λ row. P row.cap → ⊥) (λ row. P row.cap → IsNotAfter (time_in m row.cap row.entry) row.entry u g) (λ row k p. absurd (k p)) rows a

-- every row is below the value: the greatest cap goes first, and the least entry of it
pub first_below : (m : Staircase) (rows : List Row) (pair : ℕ × ℕ) → AllByRecursion (λ row. row.cap ≡ m.current → ⊥) rows → AllByRecursion (λ row. m.current < row.cap → ⊥) rows → IsGreatestBelow m.current rows pair → AllByRecursion (λ row. is_ahead (min m.current row.cap) (time_in m row.cap row.entry) row.entry pair.0 (time_in m pair.0 pair.1) pair.1 ≡ false) rows
first_below m rows pair at above f =
    all_both {A = Row} (λ row. (row.cap < m.current) × (row.cap ≤ pair.0)) (λ row. row.cap ≡ pair.0 → pair.1 ≤ row.entry) (λ row. is_ahead (min m.current row.cap) (time_in m row.cap row.entry) row.entry pair.0 (time_in m pair.0 pair.1) pair.1 ≡ false)
    (λ row a b.
    let low : row.cap < m.current = a.0 in
    let most : row.cap ≤ pair.0 = a.1 in
    let e : min m.current row.cap ≡ row.cap = omega arith in
    rw e (elim (cases_eq row.cap pair.0) [
      | inl same ↦
          let least : pair.1 ≤ row.entry = b same in
          let alike : last_change m row.cap ≡ last_change m pair.0 = ap (last_change m) same in
          rw same (same_value_later pair.0 (time_in m pair.0 row.entry) row.entry (time_in m pair.0 pair.1) pair.1 (record { time = omega (arith, least); entry = λ k. least }))
      | inr other ↦ lower_value row.cap (time_in m row.cap row.entry) row.entry pair.0 (time_in m pair.0 pair.1) pair.1 (omega (arith, other))
    ])) rows
    (all_both {A = Row} (λ row. (row.cap ≡ m.current → ⊥) × (m.current < row.cap → ⊥)) (λ row. row.cap < m.current → row.cap ≤ pair.0) (λ row. (row.cap < m.current) × (row.cap ≤ pair.0)) (λ row a b. let low : row.cap < m.current = omega (arith, a.0, a.1) in (low, b low)) rows
    (all_both {A = Row} (λ row. row.cap ≡ m.current → ⊥) (λ row. m.current < row.cap → ⊥) (λ row. (row.cap ≡ m.current → ⊥) × (m.current < row.cap → ⊥)) (λ row a b. (a, b)) rows at above) f.greatest) f.least

-- a row at the group's value that no other one at or above it goes before
pub best_at_value : (m : Staircase) (rows : List Row) (v t cap b : ℕ) → v ≡ m.current → m.current ≤ cap → is_held cap b rows ≡ true → t ≡ time_in m cap b → AllByRecursion (λ row. row.cap ≡ m.current → IsNotAfter (time_in m row.cap row.entry) row.entry t b) rows → AllByRecursion (λ row. m.current < row.cap → IsNotAfter (time_in m row.cap row.entry) row.entry t b) rows → IsGroupBest m rows v t cap b
best_at_value m rows v t cap b same reaches held time at above = record {
  held = held;
  value_is = omega arith;
  time_is = time;
  first = rw same (first_at_value m rows t b at above);
}

-- the row of greatest cap, where all are below the value
pub best_below : (m : Staircase) (rows : List Row) (pair : ℕ × ℕ) → AllByRecursion (λ row. row.cap ≡ m.current → ⊥) rows → AllByRecursion (λ row. m.current < row.cap → ⊥) rows → IsGreatestBelow m.current rows pair → IsGroupBest m rows pair.0 (time_in m pair.0 pair.1) pair.0 pair.1
best_below m rows pair at above f = record {
  held = f.held;
  value_is = let h : pair.0 < m.current = f.below in omega arith;
  time_is = refl;
  first = first_below m rows pair at above f;
}

-- the row of least entry above the value, where it isn't before (t, b) and none is at the value
pub best_of_above : (m : Staircase) (rows : List Row) (v t : ℕ) (pair : ℕ × ℕ) → v ≡ m.current → ((other : ℕ) → m.current < pair.0 → m.current < other → last_change m other ≡ last_change m pair.0) → IsLeastWhere (λ cap. v < cap) rows pair → AllByRecursion (λ row. row.cap ≡ v → IsNotAfter (time_in m row.cap row.entry) row.entry t pair.1) rows → t ≡ time_in m pair.0 pair.1 → IsGroupBest m rows v t pair.0 pair.1
best_of_above m rows v t pair present alike f at time =
    let g : IsLeastWhere (λ cap. m.current < cap) rows pair = subst (λ (n : ℕ). IsLeastWhere (λ cap. n < cap) rows pair) present f in
    let k : AllByRecursion (λ row. row.cap ≡ m.current → IsNotAfter (time_in m row.cap row.entry) row.entry t pair.1) rows = subst (λ (n : ℕ). AllByRecursion (λ row. row.cap ≡ n → IsNotAfter (time_in m row.cap row.entry) row.entry t pair.1) rows) present at in
    let h : m.current < pair.0 = g.fits in
    best_at_value m rows v t pair.0 pair.1 present (omega arith) g.held time k (rw time (after_above m rows pair alike g))

-- the row of least entry at the value, where no row above is before (t, b)
pub best_of_at : (m : Staircase) (rows : List Row) (v t : ℕ) (pair : ℕ × ℕ) → v ≡ m.current → IsLeastWhere (λ cap. cap ≡ v) rows pair → AllByRecursion (λ row. v < row.cap → IsNotAfter (time_in m row.cap row.entry) row.entry t pair.1) rows → t ≡ time_in m pair.0 pair.1 → IsGroupBest m rows v t pair.0 pair.1
best_of_at m rows v t pair present f above time =
    let g : IsLeastWhere (λ cap. cap ≡ m.current) rows pair = subst (λ (n : ℕ). IsLeastWhere (λ cap. cap ≡ n) rows pair) present f in
    let k : AllByRecursion (λ row. m.current < row.cap → IsNotAfter (time_in m row.cap row.entry) row.entry t pair.1) rows = subst (λ (n : ℕ). AllByRecursion (λ row. n < row.cap → IsNotAfter (time_in m row.cap row.entry) row.entry t pair.1) rows) present above in
    let h : pair.0 ≡ m.current = g.fits in
    best_at_value m rows v t pair.0 pair.1 present (omega arith) g.held time (rw time (after_at m rows pair g)) k

-- the rows at the value, against something that the first of them isn't before
pub after_at_value : (m : Staircase) (rows : List Row) (v u g : ℕ) (pair : ℕ × ℕ) → v ≡ m.current → IsLeastWhere (λ cap. cap ≡ v) rows pair → IsNotAfter (time_in m pair.0 pair.1) pair.1 u g → AllByRecursion (λ row. row.cap ≡ v → IsNotAfter (time_in m row.cap row.entry) row.entry u g) rows
after_at_value m rows v u g pair present f h =
    subst (λ (n : ℕ). AllByRecursion (λ row. row.cap ≡ n → IsNotAfter (time_in m row.cap row.entry) row.entry u g) rows) (sym present)
    (after_first (λ cap. cap ≡ m.current) m rows (time_in m pair.0 pair.1) pair.1 u g h (after_at m rows pair (subst (λ (n : ℕ). IsLeastWhere (λ cap. cap ≡ n) rows pair) present f)))

-- the rows above it likewise
pub after_above_value : (m : Staircase) (rows : List Row) (v u g : ℕ) (pair : ℕ × ℕ) → v ≡ m.current → ((other : ℕ) → m.current < pair.0 → m.current < other → last_change m other ≡ last_change m pair.0) → IsLeastWhere (λ cap. v < cap) rows pair → IsNotAfter (time_in m pair.0 pair.1) pair.1 u g → AllByRecursion (λ row. v < row.cap → IsNotAfter (time_in m row.cap row.entry) row.entry u g) rows
after_above_value m rows v u g pair present alike f h =
    subst (λ (n : ℕ). AllByRecursion (λ row. n < row.cap → IsNotAfter (time_in m row.cap row.entry) row.entry u g) rows) (sym present)
    (after_first (λ cap. m.current < cap) m rows (time_in m pair.0 pair.1) pair.1 u g h (after_above m rows pair alike (subst (λ (n : ℕ). IsLeastWhere (λ cap. n < cap) rows pair) present f)))

pub best_of_below : (m : Staircase) (rows : List Row) (v : ℕ) (pair : ℕ × ℕ) → v ≡ m.current → AllByRecursion (λ row. row.cap ≡ v → ⊥) rows → AllByRecursion (λ row. v < row.cap → ⊥) rows → IsGreatestBelow v rows pair → IsGroupBest m rows pair.0 (time_in m pair.0 pair.1) pair.0 pair.1
best_of_below m rows v pair present at above f =
    best_below m rows pair (subst (λ (n : ℕ). AllByRecursion (λ row. row.cap ≡ n → ⊥) rows) present at) (subst (λ (n : ℕ). AllByRecursion (λ row. n < row.cap → ⊥) rows) present above) (subst (λ (n : ℕ). IsGreatestBelow n rows pair) present f)

pub no_rows : (m : Staircase) (rows : List Row) (v : ℕ) → AllByRecursion (λ row. row.cap ≡ v → ⊥) rows → AllByRecursion (λ row. v < row.cap → ⊥) rows → AllByRecursion (λ row. v ≤ row.cap) rows → rows ≡ []
no_rows m [] v at above below = refl
no_rows m (row ∷ rows) v at above below = let h : v ≤ row.cap = below.0 in absurd (omega (arith, at.0, above.0))
