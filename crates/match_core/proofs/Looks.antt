-- What the best values of two sides tell of their rows.
use Rattle.std.proofs.Common.{◌≡◌, ℕ, suc, ◌+◌, ◌*◌, ◌≤◌, max, nat_le, nat_eq, is_some, true, false, cond, List, [], ◌∷◌, length, fold, filter, Option, Some, None, refl, ap, sym, ◌∙◌, subst, arith}
use Rattle.std.proofs.Math.Nat.{le-mul_of_pos_right}
use Rattle.std.proofs.lemmas.Bool.Decides.{nat_tests}
use Rattle.std.specs.List.{AllByRecursion}
use Rattle.std.specs.Option.{IfSome}
use Rattle.venue_words.specs.FirstRow.{IsFirst, NoneActive}
use Rattle.venue_words.specs.Price.{crosses, is_active, values_cross}
use Rattle.venue_words.specs.Priority.{before, goes_before, in_priority, is_ahead, is_ahead_if_active, placed, sorted}
use Rattle.venue_words.specs.Rows.{IsByEntry, row_by_entry}
use Rattle.venue_words.specs.declared.price.TheConstants.{PRICE_END}
use Rattle.venue_words.specs.declared.row.Priced.{Priced}
use Rattle.eager_meaning.specs.Recheck.{crosses_any, sweep}
use Rattle.eager_meaning.specs.Walk.{walk}
use Rattle.eager_meaning.specs.Work.{examined_in_sweep}
use Rattle.peg_groups.specs.BestValue.{higher, best_value}
use Rattle.peg_groups.specs.BestValueLaws.{higher-assoc}
use Rattle.peg_groups.specs.Side.{SideState, taken_row, without}
use Rattle.peg_groups.specs.declared.side_book.Taken.{Taken}
use Rattle.match_core.specs.Aside.{IsNext, NoNext}
use Rattle.match_core.specs.Sweeping.{Stage, IsStage, Turned, sides_at, rest_of_work}
use Rattle.match_core.proofs.SetAside.{is_next, walk_none, walk_blocked}
use Rattle.match_core.proofs.Turns.{none_crosses, sweep_none, sweep_out}

-- ---- what holds of each row holds of each in priority

each_placed : (P : Priced → Type 0) (x : Priced) (ys : List Priced) → P x → AllByRecursion P ys → AllByRecursion P (placed x ys)
each_placed P x [] p a = (p, tt)
each_placed P x (y ∷ ys) p a =
    elim (goes_before x y) as (λ b. AllByRecursion P (cond b (x ∷ y ∷ ys) (y ∷ placed x ys))) [
      | true ↦ (p, a)
      | false ↦ (a.0, each_placed P x ys p a.1)
    ]

abbrev put : List Priced → Priced → List Priced
put ordered x = placed x ordered

each_sorted : (P : Priced → Type 0) (done rows : List Priced) → AllByRecursion P done → AllByRecursion P rows → AllByRecursion P (fold put done rows)
each_sorted P done [] a b = a
each_sorted P done (x ∷ xs) a b = each_sorted P (placed x done) xs (each_placed P x done b.0 a) b.1

each_active : (P : Priced → Type 0) (rows : List Priced) → AllByRecursion P rows → AllByRecursion P (filter is_active rows)
each_active P [] a = tt
each_active P (x ∷ xs) a =
    elim (is_active x) as (λ b. AllByRecursion P (cond b (x ∷ filter is_active xs) (filter is_active xs))) [
      | true ↦ (a.0, each_active P xs a.1)
      | false ↦ each_active P xs a.1
    ]

each_in_priority : (P : Priced → Type 0) (rows : List Priced) → AllByRecursion P rows → AllByRecursion P (in_priority rows)
unfolding in_priority
each_in_priority P rows a = each_sorted P [] (filter is_active rows) tt (each_active P rows a)

length_placed : (x : Priced) (ys : List Priced) → length (placed x ys) ≡ suc (length ys)
length_placed x [] = refl
length_placed x (y ∷ ys) = elim (goes_before x y) as (λ b. length (cond b (x ∷ y ∷ ys) (y ∷ placed x ys)) ≡ suc (suc (length ys))) [ true ↦ refl | false ↦ ap suc (length_placed x ys) ]

length_sorted : (done rows : List Priced) → length (fold put done rows) ≡ length done + length rows
length_sorted done [] = omega arith
length_sorted done (x ∷ xs) = let h = length_sorted (placed x done) xs in omega (arith, h, length_placed x done)

length_in_priority : (rows : List Priced) → length (in_priority rows) ≡ length (filter is_active rows)
unfolding in_priority
length_in_priority rows =
    let h : length (fold put [] (filter is_active rows)) ≡ 0 + length (filter is_active rows) = length_sorted [] (filter is_active rows) in
    h ∙ omega arith

-- ---- rows that don't cross

cross_parts : (v a b : Option ℕ) → values_cross v (higher a b) ≡ false → (values_cross v a ≡ false) × (values_cross v b ≡ false)
cross_parts None a b h = (refl, refl)
cross_parts (Some v) None b h = (refl, h)
cross_parts (Some v) (Some a) None h = (h, refl)
cross_parts (Some v) (Some a) (Some b) h = (lower v a (max a b) (omega arith) h, lower v b (max a b) (omega arith) h) where
  lower : (v a m : ℕ) → a ≤ m → nat_le PRICE_END (v + m) ≡ false → nat_le PRICE_END (v + a) ≡ false
  lower v a m less k = grind (arith, nat_tests)

cross_turned : (v w : Option ℕ) → values_cross v w ≡ values_cross w v
cross_turned None None = refl
cross_turned None (Some w) = refl
cross_turned (Some v) None = refl
cross_turned (Some v) (Some w) = ap (nat_le PRICE_END) (omega arith)

-- a value that doesn't cross the best one crosses none
none_reach : (t : Priced) (rows : List Priced) → values_cross t.value (best_value rows) ≡ false → AllByRecursion (λ y. crosses t y ≡ false) rows
none_reach t [] h = tt
none_reach t (y ∷ rows) h = let p = cross_parts t.value y.value (best_value rows) h in (p.0, none_reach t rows p.1)

pub look_blocks : (t : Priced) (rows : List Priced) → values_cross t.value (best_value rows) ≡ false → crosses_any t rows ≡ false
look_blocks t rows h = none_crosses t rows (none_reach t rows h)

pub look_none : (t : Priced) (rows : List Priced) → values_cross t.value (best_value rows) ≡ false → NoNext t rows
look_none t rows h left = go (in_priority rows) (each_in_priority (λ y. crosses t y ≡ false) rows (none_reach t rows h)) where
  go : (xs : List Priced) → AllByRecursion (λ y. crosses t y ≡ false) xs → walk t left xs ≡ []
  go [] a = walk_none t left
  go (x ∷ xs) a = walk_blocked t left x xs a.0

-- where the best values of two sides don't cross, no row of the one crosses any of the other
none_meet : (own others : List Priced) → values_cross (best_value own) (best_value others) ≡ false → AllByRecursion (λ x. crosses_any x others ≡ false) own
none_meet [] others h = tt
none_meet (x ∷ own) others h =
    let p = cross_parts (best_value others) x.value (best_value own) (cross_turned (best_value others) (higher x.value (best_value own)) ∙ h) in
    (look_blocks x others (cross_turned x.value (best_value others) ∙ p.0), none_meet own others (cross_turned (best_value own) (best_value others) ∙ p.1))

-- ---- the first row has the best value

best_none : (rows : List Priced) → NoneActive rows → best_value rows ≡ None
best_none [] a = refl
best_none (x ∷ rows) a = rw a.0 (best_none rows a.1)

not_higher : (v u t e s f : ℕ) → is_ahead u t e v s f ≡ false → max u v ≡ v
not_higher v u t e s f h = grind (arith, nat_tests)

at_most : (x : Priced) (v : ℕ) (rows : List Priced) → x.value ≡ Some v → AllByRecursion (λ y. before y x ≡ false) rows → higher (best_value rows) (Some v) ≡ Some v
at_most x v [] e a = refl
at_most x v (y ∷ rows) e a = higher-assoc y.value (best_value rows) (Some v) ∙ ap (higher y.value) (at_most x v rows e a.1) ∙ go y.value x.value e a.0 where
  go : (u w : Option ℕ) → w ≡ Some v → is_ahead_if_active u y.time y.row.entry w x.time x.row.entry ≡ false → higher u (Some v) ≡ Some v
  go None w k h = refl
  go (Some u) None k h = cc
  go (Some u) (Some w) k h = let same : w ≡ v = cc in ap Some (not_higher v u y.time y.row.entry x.time x.row.entry (subst (λ (n : ℕ). is_ahead u y.time y.row.entry n x.time x.row.entry ≡ false) same h))

higher_twice : (v b : Option ℕ) → higher (higher v b) v ≡ higher v b
higher_twice None None = refl
higher_twice None (Some b) = refl
higher_twice (Some v) None = ap Some (omega arith)
higher_twice (Some v) (Some b) = ap Some (omega arith)

at_least : (entry : ℕ) (rows : List Priced) (x : Priced) → row_by_entry entry rows ≡ Some x → higher (best_value rows) x.value ≡ best_value rows
at_least entry [] x h = cc
at_least entry (y ∷ rows) x h =
    (elim (nat_eq y.row.entry entry) as (λ b. cond b (Some y) (row_by_entry entry rows) ≡ Some x → higher (higher y.value (best_value rows)) x.value ≡ higher y.value (best_value rows)) [
      | true ↦ λ k. let same : y ≡ x = cc in subst (λ (z : Priced). higher (higher y.value (best_value rows)) z.value ≡ higher y.value (best_value rows)) same (higher_twice y.value (best_value rows))
      | false ↦ λ k. higher-assoc y.value (best_value rows) x.value ∙ ap (higher y.value) (at_least entry rows x k)
    ]) h

first_best : (rows : List Priced) (x : Priced) → IsFirst rows x → best_value rows ≡ x.value
first_best rows x b =
    let e : x.value ≡ Some b.active.0 = b.active.1 in
    sym (at_least x.row.entry rows x b.held) ∙ ap (higher (best_value rows)) e ∙ at_most x b.active.0 rows e b.first ∙ sym e

-- ---- a row is taken where the look says that one crosses

pub next_of : (t : Priced) (old : SideState) (new : SideState) (o : Option Taken) → values_cross t.value (best_value old.rows) ≡ true → IsByEntry old.rows → IfSome o (λ taken. IsFirst old.rows (taken_row taken)) → IfSome o (λ taken. new ≡ without taken.node.value.row.entry old) → IfSome o (λ taken. IsNext t (taken_row taken) old.rows new.rows)
next_of t old new None does sorted first left = tt
next_of t old new (Some taken) does sorted first left =
    is_next t (taken_row taken) old.rows new.rows sorted first (ap (λ (s : SideState). s.rows) left) (ap (values_cross t.value) (sym (first_best old.rows (taken_row taken) first)) ∙ does)

pub always_some : (v : Option ℕ) (rows : List Priced) → values_cross v (best_value rows) ≡ true → NoneActive rows → ⊥
always_some v rows does none = go v (subst (λ (w : Option ℕ). values_cross v w ≡ true) (best_none rows none) does) where
  go : (u : Option ℕ) → values_cross u None ≡ true → ⊥
  go None h = cc
  go (Some u) h = cc

pub always_own : (w : Option ℕ) (rows : List Priced) → values_cross (best_value rows) w ≡ true → NoneActive rows → ⊥
always_own w rows does none = always_some w rows (cross_turned w (best_value rows) ∙ does) none

-- ---- a sweep is done where the best values don't cross

pub turned_idle : (stage : Stage) → values_cross (best_value stage.own) (best_value stage.others) ≡ false → IsStage stage → Turned false stage stage
turned_idle stage h s = record {
  is = s;
  few = omega arith;
  more = omega arith;
  others_fewer = omega arith;
  on = λ k. cc;
  shorter = λ k. cc;
  done = λ _. go (in_priority stage.own) (each_in_priority (λ x. crosses_any x stage.others ≡ false) stage.own (none_meet stage.own stage.others h));
} where
  go : (xs : List Priced) → AllByRecursion (λ x. crosses_any x stage.others ≡ false) xs → sweep xs (sides_at stage) ≡ sides_at stage
  go [] a = sweep_none (sides_at stage)
  go (x ∷ xs) a = sweep_out x xs (sides_at stage) a.0

some_active : (rows : List Priced) → length (filter is_active rows) ≡ 0 → best_value rows ≡ None
some_active [] h = refl
some_active (x ∷ rows) h = go x.value (some_active rows) h where
  go : (v : Option ℕ) → (length (filter is_active rows) ≡ 0 → best_value rows ≡ None) → length (cond (is_some v) (x ∷ filter is_active rows) (filter is_active rows)) ≡ 0 → higher v (best_value rows) ≡ None
  go None f k = f k
  go (Some v) f k = cc

-- a side with an active row has work left, by which a look at the other side is paid
least_work : (w v s0 s1 : ℕ) (stage : Stage) → s1 ≤ s0 + w + v → (best_value stage.own ≡ None → s1 ≤ s0 + w) → s1 ≤ s0 + 1536 * (w + v + 2) * rest_of_work stage + 1024 * (w + 1)
least_work w v s0 s1 stage all idle = go (in_priority stage.own) (length_in_priority stage.own) where
  go : (xs : List Priced) → length xs ≡ length (filter is_active stage.own) → s1 ≤ s0 + 1536 * (w + v + 2) * examined_in_sweep xs (sides_at stage) + 1024 * (w + 1)
  go [] e = let h = idle (some_active stage.own (sym e)) in omega (arith, h)
  go (x ∷ xs) e = paid (1536 * (w + v + 2)) (examined_in_sweep (x ∷ xs) (sides_at stage)) (omega arith) (omega arith) where
    paid : (c n : ℕ) → w + v ≤ c → 1 ≤ n → s1 ≤ s0 + c * n + 1024 * (w + 1)
    paid c n h k = let m = le-mul_of_pos_right {m = n} c (omega (arith, k)) in omega (arith, all, h, m)

pub idle_most : (w v t s0 s1 : ℕ) (stage : Stage) → s1 ≤ s0 + w + v → (best_value stage.own ≡ None → s1 ≤ s0 + w) → s1 + 512 * t ≤ s0 + 512 * t + 1536 * (w + v + 2) * rest_of_work stage + 1024 * (w + 1)
idle_most w v t s0 s1 stage all idle = let h = least_work w v s0 s1 stage all idle in sum (1536 * (w + v + 2) * rest_of_work stage) h where
  sum : (a : ℕ) → s1 ≤ s0 + a + 1024 * (w + 1) → s1 + 512 * t ≤ s0 + 512 * t + a + 1024 * (w + 1)
  sum a h = omega (arith, h)

-- the steps of a turn, with the looks in front of it
pub looked : (w v x s0 s1 s2 s3 : ℕ) → s1 ≤ s0 + w + v → s2 ≤ s1 + 960 * (w + 1) → s3 + v ≤ s2 + x → s3 ≤ s0 + 1024 * (w + 1) + x
looked w v x s0 s1 s2 s3 a b c = omega (arith, a, b, c)
