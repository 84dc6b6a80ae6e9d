-- What stands before the first mark of a text, and behind it.
use Rattle.std.proofs.Common.{◌≡◌, ℕ, ◌+◌, Bool, true, false, List, [], ◌∷◌, ◌++◌, length, take, drop, refl, sym, ◌∙◌, ap, arith}
use Rattle.std.proofs.lemmas.Bool.{or_parts}
use Rattle.std.proofs.lemmas.List.{take_at, drop_at, drop-drop, take_all, drop_all}
use Rattle.std.specs.List.{position_or_len, list_any, before_first, after_first}
use Rattle.fix_fields.specs.Marks.{place_found, position-first}

mark_at : (p : ℕ → Bool) (xs : List ℕ) (y : ℕ) (ys : List ℕ) → list_any p xs ≡ false → p y ≡ true → position_or_len p (xs ++ y ∷ ys) ≡ length xs
mark_at p xs y ys none here = (place_found _ _ _ (position-first p xs y ys none here)).1

pub before_mark : (p : ℕ → Bool) (xs : List ℕ) (y : ℕ) (ys : List ℕ) → list_any p xs ≡ false → p y ≡ true → before_first p (xs ++ y ∷ ys) ≡ xs
before_mark p xs y ys none here = ap (λ (n : ℕ). take n (xs ++ y ∷ ys)) (mark_at p xs y ys none here) ∙ take_at xs (y ∷ ys) (length xs) refl

pub after_mark : (p : ℕ → Bool) (xs : List ℕ) (y : ℕ) (ys : List ℕ) → list_any p xs ≡ false → p y ≡ true → after_first p (xs ++ y ∷ ys) ≡ ys
after_mark p xs y ys none here =
    ap (λ (n : ℕ). drop (n + 1) (xs ++ y ∷ ys)) (mark_at p xs y ys none here)
    ∙ sym (drop-drop 1 (length xs) (xs ++ y ∷ ys)) ∙ ap (drop 1) (drop_at xs (y ∷ ys) (length xs) refl)

no_mark : (p : ℕ → Bool) (xs : List ℕ) → list_any p xs ≡ false → position_or_len p xs ≡ length xs
no_mark p [] none = refl
no_mark p (x ∷ xs) none =
    let parts = or_parts (p x) (list_any p xs) none in
    let more : position_or_len p xs ≡ length xs = no_mark p xs parts.1 in
    let here : p x ≡ false = parts.0 in
    rw here (omega arith)

pub before_none : (p : ℕ → Bool) (xs : List ℕ) → list_any p xs ≡ false → before_first p xs ≡ xs
before_none p xs none = ap (λ (n : ℕ). take n xs) (no_mark p xs none) ∙ take_all (length xs) xs (omega arith)

pub after_none : (p : ℕ → Bool) (xs : List ℕ) → list_any p xs ≡ false → after_first p xs ≡ []
after_none p xs none = ap (λ (n : ℕ). drop (n + 1) xs) (no_mark p xs none) ∙ drop_all (length xs + 1) xs (omega arith)
