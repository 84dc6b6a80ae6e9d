-- Lists over numbers one after the other.
use Rattle.std.proofs.Common.{◌≡◌, ◌<◌, ◌≤◌, ◌+◌, ◌*◌, ℕ, zero, suc, Bool, true, false, cond, List, [], ◌∷◌, ◌++◌, filter, refl, sym, ◌∙◌, ap, arith, add-one, append_assoc, append-nil}
use Rattle.std.specs.List.{All, flat_map, range_with_len}
use Rattle.std.proofs.lemmas.List.Elements.{All-cons, All-nil}
use Rattle.std.proofs.Math.Nat.{suc-mul}
use Rattle.drop_copy.specs.Desks.{AreRising}

flat_more : {A : Type 0} (f : ℕ → List A) (first count : ℕ)
    → flat_map f (range_with_len first (suc count)) ≡ flat_map f (range_with_len first count) ++ f (first + count)
flat_more f first zero = let e : first ≡ first + 0 = omega arith in append-nil (f first) ∙ ap f e
flat_more f first (suc count) =
    let e : (first + 1) + count ≡ first + suc count = omega arith in
    ap (λ (xs : List _). f first ++ xs) (flat_more f (first + 1) count ∙ ap (λ (n : ℕ). flat_map f (range_with_len (first + 1) count) ++ f n) e)
    ∙ sym (append_assoc (f first) (flat_map f (range_with_len (first + 1) count)) (f (first + suc count)))

-- one more number
pub flat_next : {A : Type 0} (f : ℕ → List A) (count : ℕ)
    → flat_map f (range_with_len 0 (count + 1)) ≡ flat_map f (range_with_len 0 count) ++ f count
flat_next f count =
    let e : 0 + count ≡ count = omega arith in
    ap (λ (n : ℕ). flat_map f (range_with_len 0 n)) (add-one count) ∙ flat_more f 0 count
    ∙ ap (λ (n : ℕ). flat_map f (range_with_len 0 count) ++ f n) e

same_from : {A : Type 0} (f g : ℕ → List A) (first count : ℕ) → ((k : ℕ) → k < first + count → f k ≡ g k)
    → flat_map f (range_with_len first count) ≡ flat_map g (range_with_len first count)
same_from f g first zero same = refl
same_from f g first (suc count) same =
    ap (λ (xs : List _). xs ++ flat_map f (range_with_len (first + 1) count)) (same first (omega arith))
    ∙ ap (λ (xs : List _). g first ++ xs) (same_from f g (first + 1) count (λ k h. same k (omega arith)))

-- what is the same for each number is the same for all
pub flat_same : {A : Type 0} (f g : ℕ → List A) (count : ℕ) → ((k : ℕ) → k < count → f k ≡ g k)
    → flat_map f (range_with_len 0 count) ≡ flat_map g (range_with_len 0 count)
flat_same f g count same = same_from f g 0 count (λ k h. same k (omega arith))

-- ---- places in rows

mul_within : (a b width : ℕ) → a ≤ b → a * width ≤ b * width
mul_within zero b width h = omega (arith, zero_mul width) where
  zero_mul : (n : ℕ) → zero * n ≡ 0
  zero_mul n = omega arith
mul_within (suc a) zero width h = absurd (omega arith)
mul_within (suc a) (suc b) width h = omega (arith, suc-mul a width, suc-mul b width, mul_within a b width (omega arith))

-- a place of an earlier row stands before a later row
pub place_before : (row rows place width : ℕ) → row < rows → place < width → row * width + place < rows * width
place_before row rows place width h k =
    omega (arith, suc-mul row width, mul_within (suc row) rows width (omega arith))

pub next_row : (rows width : ℕ) → (rows + 1) * width ≡ rows * width + width
next_row rows width = ap (λ (n : ℕ). n * width) (add-one rows) ∙ suc-mul rows width

-- ---- the numbers that pass a test

filter_more : (p : ℕ → Bool) (first count : ℕ)
    → filter p (range_with_len first (suc count)) ≡ filter p (range_with_len first count) ++ cond (p (first + count)) ((first + count) ∷ []) []
filter_more p first zero = let e : first ≡ first + 0 = omega arith in ap (λ (n : ℕ). cond (p n) (n ∷ []) []) e
filter_more p first (suc count) =
    let e : (first + 1) + count ≡ first + suc count = omega arith in
    ap (λ (xs : List ℕ). cond (p first) (first ∷ xs) xs)
    (filter_more p (first + 1) count ∙ ap (λ (n : ℕ). filter p (range_with_len (first + 1) count) ++ cond (p n) (n ∷ []) []) e)
    ∙ out (p first) first (filter p (range_with_len (first + 1) count)) (cond (p (first + suc count)) ((first + suc count) ∷ []) [])
  where
    out : (b : Bool) (x : ℕ) (xs ys : List ℕ) → cond b (x ∷ (xs ++ ys)) (xs ++ ys) ≡ cond b (x ∷ xs) xs ++ ys
    out true x xs ys = refl
    out false x xs ys = refl

pub filter_next : (p : ℕ → Bool) (count : ℕ)
    → filter p (range_with_len 0 (count + 1)) ≡ filter p (range_with_len 0 count) ++ cond (p count) (count ∷ []) []
filter_next p count =
    let e : 0 + count ≡ count = omega arith in
    ap (λ (n : ℕ). filter p (range_with_len 0 n)) (add-one count) ∙ filter_more p 0 count
    ∙ ap (λ (n : ℕ). filter p (range_with_len 0 count) ++ cond (p n) (n ∷ []) []) e

all_filtered : (P : ℕ → Type 0) (p : ℕ → Bool) (first count : ℕ) → ((k : ℕ) → first ≤ k → k < first + count → P k)
    → All P (filter p (range_with_len first count))
all_filtered P p first zero h = All-nil P
all_filtered P p first (suc count) h =
    let rest = all_filtered P p (first + 1) count (λ k a b. h k (omega arith) (omega arith)) in
    elim (p first) as (λ b. All P (cond b (first ∷ filter p (range_with_len (first + 1) count)) (filter p (range_with_len (first + 1) count)))) [
      | true ↦ All-cons P first (filter p (range_with_len (first + 1) count)) (h first (omega arith) (omega arith)) rest
      | false ↦ rest
    ]

-- they are below the end of the numbers
pub filtered_below : (p : ℕ → Bool) (count : ℕ) → All (λ k. k < count) (filter p (range_with_len 0 count))
filtered_below p count = all_filtered (λ k. k < count) p 0 count (λ k a b. omega arith)

rising_from : (p : ℕ → Bool) (first count : ℕ) → AreRising (filter p (range_with_len first count))
rising_from p first zero = tt
rising_from p first (suc count) =
    let rest = rising_from p (first + 1) count in
    elim (p first) as (λ b. AreRising (cond b (first ∷ filter p (range_with_len (first + 1) count)) (filter p (range_with_len (first + 1) count)))) [
      | true ↦ (all_filtered (λ k. first < k) p (first + 1) count (λ k a b. omega arith), rest)
      | false ↦ rest
    ]

-- and each stands before greater ones
pub filtered_rising : (p : ℕ → Bool) (count : ℕ) → AreRising (filter p (range_with_len 0 count))
filtered_rising p count = rising_from p 0 count
