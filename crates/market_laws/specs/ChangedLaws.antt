-- Orders by their numbers, after one of them is changed.
use Rattle.std.proofs.Common.{◌≡◌, ℕ, zero, suc, List, [], ◌∷◌, Some, None, refl, ap}
use Rattle.std.specs.Prelude.{slice_get, slice_set}
use Rattle.std.specs.Option.{option_map_or}
use Rattle.eager_meaning.specs.declared.order.Order.{Order}
use Rattle.eager_meaning.specs.Orders.{changed_at}
use Rattle.market_laws.specs.Equalities.{some_is}

pub changed_next : {T : Type 0} (f : T → T) (k : ℕ) (x : T) (xs : List T) → changed_at f (suc k) (x ∷ xs) ≡ x ∷ changed_at f k xs
changed_next f k x xs =
    elim (slice_get xs k) as (λ found. option_map_or (λ y. slice_set (x ∷ xs) (suc k) (f y)) found (x ∷ xs) ≡ x ∷ option_map_or (λ y. slice_set xs k (f y)) found xs)
    [ None ↦ refl | Some y ↦ refl ]

pub get_changed : (f : Order → Order) (k : ℕ) (orders : List Order) (order : Order) → slice_get orders k ≡ Some order → slice_get (changed_at f k orders) k ≡ Some (f order)
get_changed f k [] order h = cc
get_changed f zero (o ∷ os) order h = ap (λ (x : Order). Some (f x)) (some_is _ _ h)
get_changed f (suc k) (o ∷ os) order h = rw (changed_next f k o os) (get_changed f k os order h)

pub get_other : (f : Order → Order) (k j : ℕ) (orders : List Order) → (k ≡ j → ⊥) → slice_get (changed_at f k orders) j ≡ slice_get orders j
get_other f k j [] d = refl
get_other f zero zero (o ∷ os) d = absurd (d refl)
get_other f zero (suc j) (o ∷ os) d = refl
get_other f (suc k) zero (o ∷ os) d = rw (changed_next f k o os) refl
get_other f (suc k) (suc j) (o ∷ os) d = rw (changed_next f k o os) (get_other f k j os (λ e. d (ap suc e)))
