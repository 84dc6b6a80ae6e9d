-- Sums over a list of which one item is known.
use Rattle.std.proofs.Common.{◌≡◌, ℕ, zero, suc, ◌+◌, ◌<◌, ◌≤◌, ◌≢◌, List, [], ◌∷◌, length, set, sym, refl, ap, arith}
use Rattle.std.specs.List.{sum_by}
use Rattle.std.proofs.lemmas.List.Sums.{sum_by-cons}
use mathlib.Core.Option.{some, some-injective, some-ne-none}
use lib.ListN.{get_elem?}

pub inside : {A : Type 0} (xs : List A) (j : ℕ) (x : A) → get_elem? xs j ≡ some x → j < length xs
inside [] j x at = absurd (some-ne-none x (sym at))
inside (y ∷ xs) zero x at = omega arith
inside (y ∷ xs) (suc j) x at = let h = inside xs j x at in omega arith

module _ {A : Type 0} (f : A → ℕ) where
  pub sum_set : (xs : List A) (j : ℕ) (x y : A) → get_elem? xs j ≡ some x → sum_by f (set xs j y) + f x ≡ sum_by f xs + f y
  sum_set [] j x y at = absurd (some-ne-none x (sym at))
  sum_set (z ∷ xs) zero x y at =
      let e : f z ≡ f x = ap f (some-injective z x at) in let a = sum_by-cons f y xs in let b = sum_by-cons f z xs in omega arith
  sum_set (z ∷ xs) (suc j) x y at =
      let e = sum_set xs j x y at in let a = sum_by-cons f z (set xs j y) in let b = sum_by-cons f z xs in omega arith

  pub item_le_sum : (xs : List A) (j : ℕ) (x : A) → get_elem? xs j ≡ some x → f x ≤ sum_by f xs
  item_le_sum [] j x at = absurd (some-ne-none x (sym at))
  item_le_sum (z ∷ xs) zero x at = let e : f z ≡ f x = ap f (some-injective z x at) in let b = sum_by-cons f z xs in omega arith
  item_le_sum (z ∷ xs) (suc j) x at = let e = item_le_sum xs j x at in let b = sum_by-cons f z xs in omega arith

  pub two_le_sum : (xs : List A) (i j : ℕ) (x y : A) → get_elem? xs i ≡ some x → get_elem? xs j ≡ some y → j ≢ i → f x + f y ≤ sum_by f xs
  two_le_sum [] i j x y at at' n = absurd (some-ne-none x (sym at))
  two_le_sum (z ∷ xs) zero zero x y at at' n = absurd (n refl)
  two_le_sum (z ∷ xs) zero (suc j) x y at at' n =
      let e : f z ≡ f x = ap f (some-injective z x at) in let h = item_le_sum xs j y at' in let b = sum_by-cons f z xs in omega arith
  two_le_sum (z ∷ xs) (suc i) zero x y at at' n =
      let e : f z ≡ f y = ap f (some-injective z y at') in let h = item_le_sum xs i x at in let b = sum_by-cons f z xs in omega arith
  two_le_sum (z ∷ xs) (suc i) (suc j) x y at at' n =
      let h = two_le_sum xs i j x y at at' (λ e. n (ap suc e)) in let b = sum_by-cons f z xs in omega arith

  pub sum_none : (xs : List A) → ((j : ℕ) (x : A) → get_elem? xs j ≡ some x → f x ≡ 0) → sum_by f xs ≡ 0
  sum_none [] none = refl
  sum_none (z ∷ xs) none =
      let e = none zero z refl in let r = sum_none xs (λ j x at. none (suc j) x at) in let b = sum_by-cons f z xs in omega arith

  -- where each other item has none, one item has all
  pub sum_alone : (xs : List A) (i : ℕ) (x : A) → get_elem? xs i ≡ some x → ((j : ℕ) (y : A) → j ≢ i → get_elem? xs j ≡ some y → f y ≡ 0) → sum_by f xs ≡ f x
  sum_alone [] i x at none = absurd (some-ne-none x (sym at))
  sum_alone (z ∷ xs) zero x at none =
      let e : f z ≡ f x = ap f (some-injective z x at) in
      let r = sum_none xs (λ j y at'. none (suc j) y (λ e. omega arith) at') in let b = sum_by-cons f z xs in omega arith
  sum_alone (z ∷ xs) (suc i) x at none =
      let e = none zero z (λ e. omega arith) refl in
      let r = sum_alone xs i x at (λ j y other at'. none (suc j) y (λ e. other (omega arith)) at') in let b = sum_by-cons f z xs in omega arith
