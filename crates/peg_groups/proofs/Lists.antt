-- The elements of a list by their places.
use Rattle.std.proofs.Common.{◌≡◌, ℕ, zero, suc, ◌+◌, ◌<◌, List, [], ◌∷◌, length, get_or, take, drop, Some, refl, ap, arith, add-one, slice_get}
use Rattle.std.specs.List.{AllByRecursion}

some_is : {A : Type 0} {x y : A} → Some x ≡ Some y → x ≡ y
some_is e = cc

pub get_within : {A : Type 0} (xs : List A) (i : ℕ) (d : A) → i < length xs → slice_get xs i ≡ Some (get_or xs i d)
get_within [] i d h = absurd (omega arith)
get_within (x ∷ xs) zero d h = refl
get_within (x ∷ xs) (suc i) d h = get_within xs i d (omega arith)

pub all_at : {A : Type 0} (P : A → Type 0) (xs : List A) (i : ℕ) (x : A) → AllByRecursion P xs → slice_get xs i ≡ Some x → P x
all_at P [] i x a h = cc
all_at P (y ∷ xs) zero x a h = let e : y ≡ x = some_is h in rw (← e) a.0
all_at P (y ∷ xs) (suc i) x a h = all_at P xs i x a.1 h

take_one_more : {A : Type 0} (P : A → Type 0) (xs : List A) (i : ℕ) (x : A) → AllByRecursion P (take i xs) → slice_get xs i ≡ Some x → P x → AllByRecursion P (take (suc i) xs)
take_one_more P [] i x a h p = tt
take_one_more P (y ∷ xs) zero x a h p = let e : y ≡ x = some_is h in (rw e p, tt)
take_one_more P (y ∷ xs) (suc i) x a h p = (a.0, take_one_more P xs i x a.1 h p)

-- one element more
pub take_more : {A : Type 0} (P : A → Type 0) (xs : List A) (i : ℕ) (x : A) → AllByRecursion P (take i xs) → slice_get xs i ≡ Some x → P x → AllByRecursion P (take (i + 1) xs)
take_more P xs i x a h p = rw add-one (take_one_more P xs i x a h p)

-- all elements
pub take_all : {A : Type 0} (P : A → Type 0) (xs : List A) (n : ℕ) → n ≡ length xs → AllByRecursion P (take n xs) → AllByRecursion P xs
take_all P [] n e a = tt
take_all P (x ∷ xs) zero e a = absurd (omega arith)
take_all P (x ∷ xs) (suc n) e a = (a.0, take_all P xs n (omega arith) a.1)

-- the elements from a place on
pub drop_at : {A : Type 0} (xs : List A) (i : ℕ) (x : A) → slice_get xs i ≡ Some x → drop i xs ≡ x ∷ drop (i + 1) xs
drop_at xs i x h = rw add-one (go xs i x h) where
  go : {A : Type 0} (xs : List A) (i : ℕ) (x : A) → slice_get xs i ≡ Some x → drop i xs ≡ x ∷ drop (suc i) xs
  go [] i x h = cc
  go (y ∷ xs) zero x h = ap (λ (z : _). z ∷ xs) (some_is h)
  go (y ∷ xs) (suc i) x h = go xs i x h
