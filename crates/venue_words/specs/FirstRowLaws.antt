-- The first row of a side by priority is the first of its rows sorted by priority.
use Rattle.std.proofs.Common.{◌≡◌, ℕ, Bool, true, false, not, cond, eqb, List, [], ◌∷◌, ◌++◌, Option, Some, None, refl, ap, sym, ◌∙◌, subst, arith}
use Rattle.std.specs.Prelude.{filter, unwrap_or, is_some}
use Rattle.std.specs.List.{list_all, AllByRecursion}
use Rattle.std.proofs.lemmas.Bool.{eq-eqb}
use Rattle.std.proofs.lemmas.Bool.Decides.{nat_tests}
use Rattle.venue_words.specs.declared.row.Priced.{Priced}
use Rattle.venue_words.specs.Price.{is_active}
use Rattle.venue_words.specs.Priority.{is_ahead, is_ahead_if_active, before, is_older, goes_before, in_priority, sorted}
use Rattle.venue_words.specs.PriorityLaws.{first_in_priority}
use Rattle.venue_words.specs.Rows.{row_by_entry, without_entry}
use Rattle.venue_words.specs.FirstRow.{IsFirst, NoneActive}
use Rattle.venue_words.specs.ListLaws.{all_weaken, all_both, all_parts}

ahead_of : (v t e w u f : ℕ) → is_ahead v t e w u f ≡ false → (e ≡ f → ⊥) → is_ahead w u f v t e ≡ true
ahead_of v t e w u f h k = grind (arith, nat_tests)

not_ahead : (v t e w u f : ℕ) → is_ahead v t e w u f ≡ false → is_ahead v t e w u f ≡ false
not_ahead v t e w u f h = grind (arith, nat_tests)

-- a row that goes after the first one, in the words of the sorted list
goes_ahead : (x y : Priced) → (v : ℕ) × (x.value ≡ Some v) → before y x ≡ false → (y.row.entry ≡ x.row.entry → ⊥) → is_active y ≡ true → goes_before x y ≡ true
unfolding goes_before is_older
goes_ahead x y active h differ is = go x.value y.value active h is where
  go : (v w : Option ℕ) → (n : ℕ) × (v ≡ Some n) → is_ahead_if_active w y.time y.row.entry v x.time x.row.entry ≡ false → is_some w ≡ true → is_ahead (unwrap_or v 0) x.time x.row.entry (unwrap_or w 0) y.time y.row.entry ≡ true
  go None w a k i = let e = a.1 in cc
  go (Some v) None a k i = cc
  go (Some v) (Some w) a k i = ahead_of w y.time y.row.entry v x.time x.row.entry k differ

stays_behind : (x y : Priced) → (v : ℕ) × (x.value ≡ Some v) → before y x ≡ false → is_active y ≡ true → goes_before y x ≡ false
unfolding goes_before is_older
stays_behind x y active h is = go x.value y.value active h is where
  go : (v w : Option ℕ) → (n : ℕ) × (v ≡ Some n) → is_ahead_if_active w y.time y.row.entry v x.time x.row.entry ≡ false → is_some w ≡ true → is_ahead (unwrap_or w 0) y.time y.row.entry (unwrap_or v 0) x.time x.row.entry ≡ false
  go None w a k i = let e = a.1 in cc
  go (Some v) None a k i = cc
  go (Some v) (Some w) a k i = not_ahead w y.time y.row.entry v x.time x.row.entry k

each_active : (p : Priced → Bool) (rows : List Priced) → AllByRecursion (λ y. is_active y ≡ true → p y ≡ true) rows → list_all p (filter is_active rows) ≡ true
each_active p [] a = refl
each_active p (y ∷ rows) a =
    elim (is_active y) as (λ b. is_active y ≡ b → list_all p (cond b (y ∷ filter is_active rows) (filter is_active rows)) ≡ true) [
      | true ↦ λ e. rw (a.0 e) (each_active p rows a.1)
      | false ↦ λ e. each_active p rows a.1
    ] refl

-- the rows in front of a found one and behind it
pub record IsParted (rows : List Priced) (entry : ℕ) (x : Priced) : Type 0 where
  pub front : List Priced
  pub back : List Priced
  pub all : rows ≡ front ++ x ∷ back
  pub left : without_entry entry rows ≡ front ++ back
  pub other : AllByRecursion (λ y. y.row.entry ≡ entry → ⊥) front

some_is : {x y : Priced} → Some x ≡ Some y → x ≡ y
some_is e = cc

pub part_at : (entry : ℕ) (rows : List Priced) (x : Priced) → row_by_entry entry rows ≡ Some x → IsParted rows entry x
part_at entry [] x h = cc
part_at entry (y ∷ rows) x h =
    (elim (eqb y.row.entry entry) as (λ b. eqb y.row.entry entry ≡ b → cond b (Some y) (row_by_entry entry rows) ≡ Some x → IsParted (y ∷ rows) entry x) [
      | true ↦ λ e k. record { front = []; back = rows; all = ap (λ (z : Priced). z ∷ rows) (some_is k); left = rw e refl; other = tt }
      | false ↦ λ e k.
          let r = part_at entry rows x k in
          record { front = y ∷ r.front; back = r.back; all = ap (λ (others : List Priced). y ∷ others) r.all; left = rw e (ap (λ (others : List Priced). y ∷ others) r.left); other = ((λ same. let t = eq-eqb y.row.entry entry same in let f = sym e ∙ t in cc), r.other) }
    ] refl) h

not_of : (b : Bool) → b ≡ false → not b ≡ true
not_of b h = rw h refl

-- where x is active and held and no other row goes before it, it is the first of the sorted rows, and the others keep their order
pub first_of_priority : (rows : List Priced) (x : Priced) → IsFirst rows x → in_priority rows ≡ x ∷ in_priority (without_entry x.row.entry rows)
first_of_priority rows x b =
    let p = part_at x.row.entry rows x b.held in
    let all = all_parts (λ other. before other x ≡ false) p.front (x ∷ p.back) (subst (λ (r : List Priced). AllByRecursion (λ other. before other x ≡ false) r) p.all b.first) in
    ap in_priority p.all
    ∙ first_in_priority x p.front p.back (rw b.active.1 refl)
    (each_active (goes_before x) p.front (all_both (λ y. before y x ≡ false) (λ y. y.row.entry ≡ x.row.entry → ⊥) (λ y. is_active y ≡ true → goes_before x y ≡ true) (λ y h k i. goes_ahead x y b.active h k i) p.front all.0 p.other))
    (each_active (λ y. not (goes_before y x)) p.back (all_weaken (λ y. before y x ≡ false) (λ y. is_active y ≡ true → not (goes_before y x) ≡ true) (λ y h i. not_of (goes_before y x) (stays_behind x y b.active h i)) p.back all.1.1))
    ∙ ap (λ (others : List Priced). x ∷ in_priority others) (sym p.left)

no_active : (rows : List Priced) → NoneActive rows → filter is_active rows ≡ []
no_active [] a = refl
no_active (y ∷ rows) a = rw a.0 (no_active rows a.1)

pub none_in_priority : (rows : List Priced) → NoneActive rows → in_priority rows ≡ []
unfolding in_priority
none_in_priority rows a = ap sorted (no_active rows a)
