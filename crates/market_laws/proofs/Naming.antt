-- Orders by their numbers, after one is changed or one comes in; and rows that are found.
use Rattle.std.proofs.Common.{◌≡◌, ℕ, zero, suc, Bool, true, false, cond, List, [], ◌∷◌, ◌++◌, length, Some, refl, ap, sym, ◌∙◌, subst}
use Rattle.std.specs.Prelude.{slice_get, find}
use Rattle.std.specs.List.{AllByRecursion}
use Rattle.venue_words.specs.declared.row.Priced.{Priced}
use Rattle.eager_meaning.specs.declared.order.Order.{Order}
use Rattle.eager_meaning.specs.Orders.{changed_at}
use Rattle.market_laws.specs.ChangedLaws.{changed_next}
use Rattle.market_laws.specs.Equalities.{some_is}

pub get_kept : {A : Type 0} (xs : List A) (new : A) (k : ℕ) (there : A) → slice_get xs k ≡ Some there → slice_get (xs ++ new ∷ []) k ≡ Some there
get_kept [] new k there h = cc
get_kept (x ∷ xs) new zero there h = h
get_kept (x ∷ xs) new (suc k) there h = get_kept xs new k there h

pub get_last : {A : Type 0} (xs : List A) (new : A) → slice_get (xs ++ new ∷ []) (length xs) ≡ Some new
get_last [] new = refl
get_last (x ∷ xs) new = get_last xs new

-- what holds of each order and of one more
pub each_more : (P : Order → Type 0) (orders : List Order) (order : Order) → ((k : ℕ) (x : Order) → slice_get orders k ≡ Some x → P x) → P order → (k : ℕ) (x : Order) → slice_get (orders ++ order ∷ []) k ≡ Some x → P x
each_more P [] order h p zero x e = subst P (some_is _ _ e) p
each_more P [] order h p (suc k) x e = cc
each_more P (o ∷ os) order h p zero x e = h 0 x e
each_more P (o ∷ os) order h p (suc k) x e = each_more P os order (λ j y f. h (suc j) y f) p k x e

-- what holds of each order and of the changed one
pub each_changed : (P : Order → Type 0) (f : Order → Order) (k : ℕ) (orders : List Order) (order : Order) → ((j : ℕ) (x : Order) → slice_get orders j ≡ Some x → P x) → slice_get orders k ≡ Some order → P (f order) → (j : ℕ) (x : Order) → slice_get (changed_at f k orders) j ≡ Some x → P x
each_changed P f k [] order h at p j x e = cc
each_changed P f zero (o ∷ os) order h at p zero x e =
    let same : f order ≡ x = ap f (sym (some_is _ _ at)) ∙ some_is _ _ e in
    subst P same p
each_changed P f zero (o ∷ os) order h at p (suc j) x e = h (suc j) x e
each_changed P f (suc k) (o ∷ os) order h at p zero x e = h 0 x (subst (λ (os2 : List Order). slice_get os2 0 ≡ Some x) (changed_next f k o os) e)
each_changed P f (suc k) (o ∷ os) order h at p (suc j) x e = each_changed P f k os order (λ i y g. h (suc i) y g) at p j x (subst (λ (os2 : List Order). slice_get os2 (suc j) ≡ Some x) (changed_next f k o os) e)

-- a row that is found is one of the rows, and passes
pub find_passes : (P : Priced → Type 0) (p : Priced → Bool) (rows : List Priced) (x : Priced) → AllByRecursion P rows → find p rows ≡ Some x → P x × (p x ≡ true)
find_passes P p [] x a h = cc
find_passes P p (y ∷ ys) x a h =
    (elim (p y) as (λ b. p y ≡ b → cond b (Some y) (find p ys) ≡ Some x → P x × (p x ≡ true)) [
      | true ↦ λ e k. subst (λ (z : Priced). P z × (p z ≡ true)) (some_is _ _ k) (a.0, e)
      | false ↦ λ e k. find_passes P p ys x a.1 k
    ]) refl h
