-- Lists that are gathered one by one.
use Rattle.std.proofs.Common.{◌≡◌, ◌≤◌, ◌+◌, ℕ, zero, suc, Option, Some, None, List, [], ◌∷◌, ◌++◌, length, refl, sym, ◌∙◌, ap, arith, add-one, append_assoc, append-nil}
use Rattle.std.proofs.Common.{◌<◌, take}
use Rattle.std.proofs.Math.Seq.{take-suc}
use Rattle.std.proofs.lemmas.List.Elements.{filter_map-append}
use Rattle.std.specs.List.{cons_option, filter_map, flat_map, range_with_len}
use Rattle.std.specs.Option.{option_to_list}
use Rattle.std.specs.Prelude.{get_or}

few_more : {Y : Type 0} (o : Option Y) (ys : List Y) (n : ℕ) → length ys ≤ n → length (cons_option o ys) ≤ suc n
few_more None ys n h = omega (arith, h)
few_more (Some y) ys n h = omega (arith, h)

-- no more are gathered than there are
pub few : {X Y : Type 0} (h : X → Option Y) (xs : List X) → length (filter_map h xs) ≤ length xs
few h [] = omega arith
few h (x ∷ xs) = few_more (h x) (filter_map h xs) (length xs) (few h xs)

one_more : {Y : Type 0} (o : Option Y) → cons_option o [] ≡ option_to_list o
one_more None = refl
one_more (Some y) = refl

-- what is gathered from one more
pub filter_map_next : {X Y : Type 0} (h : X → Option Y) (xs : List X) (k : ℕ) (x : X) → k < length xs → x ≡ get_or xs k x
    → filter_map h (take (k + 1) xs) ≡ filter_map h (take k xs) ++ option_to_list (h x)
filter_map_next {X} h xs k x inside is =
    ap (λ (n : ℕ). filter_map h (take n xs)) (add-one k)
    ∙ (ap (filter_map h) (take-suc xs k x inside)
    ∙ (filter_map-append h (take k xs) (get_or xs k x ∷ [])
    ∙ ap (λ (ys : List _). filter_map h (take k xs) ++ ys) (ap (λ (y : X). filter_map h (y ∷ [])) (sym is) ∙ one_more (h x))))

flat_more : {A : Type 0} (f : ℕ → List A) (first count : ℕ)
    → flat_map f (range_with_len first (suc count)) ≡ flat_map f (range_with_len first count) ++ f (first + count)
flat_more f first zero = let e : first ≡ first + 0 = omega arith in append-nil (f first) ∙ ap f e
flat_more f first (suc count) =
    let e : (first + 1) + count ≡ first + suc count = omega arith in
    ap (λ (xs : List _). f first ++ xs) (flat_more f (first + 1) count ∙ ap (λ (n : ℕ). flat_map f (range_with_len (first + 1) count) ++ f n) e)
    ∙ sym (append_assoc (f first) (flat_map f (range_with_len (first + 1) count)) (f (first + suc count)))

-- one more number
pub flat_next : {A : Type 0} (f : ℕ → List A) (count : ℕ)
    → flat_map f (range_with_len 0 (count + 1)) ≡ flat_map f (range_with_len 0 count) ++ f count
flat_next f count =
    let e : 0 + count ≡ count = omega arith in
    ap (λ (n : ℕ). flat_map f (range_with_len 0 n)) (add-one count) ∙ flat_more f 0 count
    ∙ ap (λ (n : ℕ). flat_map f (range_with_len 0 count) ++ f n) e

-- what was gathered from the numbers so far, and from one more
pub gathered : {A : Type 0} (f : ℕ → List A) (count : ℕ) (old new : List A) → old ≡ flat_map f (range_with_len 0 count) → new ≡ old ++ f count
    → new ≡ flat_map f (range_with_len 0 (count + 1))
gathered f count old new so_far more = more ∙ ap (λ (xs : List _). xs ++ f count) so_far ∙ sym (flat_next f count)
