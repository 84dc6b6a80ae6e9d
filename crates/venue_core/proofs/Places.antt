-- One element of a list is replaced.
use Rattle.std.specs.List.{All}
use Rattle.std.proofs.lemmas.List.Elements.{All-head, All-tail}
use Rattle.std.proofs.Common.{◌≡◌, ◌≢◌, ℕ, zero, suc, ◌<◌, List, [], ◌∷◌, map, length, set, get_or, sym, refl, ap, ◌∙◌, subst, arith, Some, slice_get}

module _ {A : Type 0} where
  -- what f makes of each element, where it makes the same of the new one
  pub map_same : {B : Type 0} (f : A → B) (xs : List A) (i : ℕ) (x y : A) → slice_get xs i ≡ Some x → f y ≡ f x
      → map f (set xs i y) ≡ map f xs
  map_same f [] i x y at same = refl
  map_same f (z ∷ zs) zero x y at same = let e : z ≡ x = (cc) in λ k. (same ∙ ap f (sym e)) k ∷ map f zs
  map_same f (z ∷ zs) (suc i) x y at same = λ k. f z ∷ map_same f zs i x y at same k

  pub set_here : (xs : List A) (i : ℕ) (x y : A) → slice_get xs i ≡ Some x → slice_get (set xs i y) i ≡ Some y
  set_here [] i x y at = absurd (cc)
  set_here (z ∷ zs) zero x y at = refl
  set_here (z ∷ zs) (suc i) x y at = set_here zs i x y at

  pub set_elsewhere : (xs : List A) (i j : ℕ) (y : A) → j ≢ i → slice_get (set xs i y) j ≡ slice_get xs j
  set_elsewhere [] i j y n = refl
  set_elsewhere (z ∷ zs) zero zero y n = absurd (n refl)
  set_elsewhere (z ∷ zs) zero (suc j) y n = refl
  set_elsewhere (z ∷ zs) (suc i) zero y n = refl
  set_elsewhere (z ∷ zs) (suc i) (suc j) y n = set_elsewhere zs i j y (λ e. n (ap suc e))

  pub get_read : (xs : List A) (i : ℕ) (x : A) → i < length xs → x ≡ get_or xs i x → slice_get xs i ≡ Some x
  get_read [] i x lt e = absurd (omega arith)
  get_read (y ∷ ys) zero x lt e = ap Some (sym e)
  get_read (y ∷ ys) (suc i) x lt e = get_read ys i x (omega arith) e

  -- a number of each element
  pub index_map : (f : A → ℕ) (xs : List A) (i : ℕ) (x : A) → slice_get xs i ≡ Some x → get_or (map f xs) i 0 ≡ f x
  index_map f [] i x at = absurd (cc)
  index_map f (z ∷ zs) zero x at = let e : z ≡ x = (cc) in ap f e
  index_map f (z ∷ zs) (suc i) x at = index_map f zs i x at

  -- what f makes of an element
  pub get_map : {B : Type 0} (f : A → B) (xs : List A) (i : ℕ) (x : A) → slice_get xs i ≡ Some x → slice_get (map f xs) i ≡ Some (f x)
  get_map f [] i x at = absurd (cc)
  get_map f (z ∷ zs) zero x at = let e : z ≡ x = (cc) in ap (λ (u : A). Some (f u)) e
  get_map f (z ∷ zs) (suc i) x at = get_map f zs i x at

  pub within : (xs : List A) (i : ℕ) (x : A) → slice_get xs i ≡ Some x → i < length xs
  within [] i x at = absurd (cc)
  within (z ∷ zs) zero x at = omega arith
  within (z ∷ zs) (suc i) x at = let h = within zs i x at in omega arith

  pub holds_at : (P : A → Type 0) (xs : List A) (i : ℕ) (x : A) → slice_get xs i ≡ Some x → All P xs → P x
  holds_at P [] i x at all = absurd (cc)
  holds_at P (y ∷ ys) zero x at all = let e : y ≡ x = (cc) in subst P e (All-head P y ys all)
  holds_at P (y ∷ ys) (suc i) x at all = holds_at P ys i x at (All-tail P y ys all)
