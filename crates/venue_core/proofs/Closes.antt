-- One gate after another is made, or closed.
use Rattle.std.proofs.Common.{◌≡◌, ℕ, List, [], ◌∷◌, ◌++◌, map, length, sym, ap, ◌∙◌, subst, arith, append_assoc}
use Rattle.std.specs.List.{All, AllZip}
use Rattle.std.proofs.lemmas.List.{map-append, append-nil}
use Rattle.std.proofs.lemmas.List.Elements.{All-nil, All-cons, All-head, All-tail}

module _ {A B : Type 0} where
  pub zip_push : (R : A → B → Type 0) (xs : List A) (ys : List B) (x : A) (y : B) → AllZip R xs ys → R x y → AllZip R (xs ++ x ∷ []) (ys ++ y ∷ [])
  zip_push R [] [] x y all r = (r, tt)
  zip_push R [] (b ∷ ys) x y all r = absurd all
  zip_push R (a ∷ xs) [] x y all r = absurd all
  zip_push R (a ∷ xs) (b ∷ ys) x y all r = (all.0, zip_push R xs ys x y all.1 r)

  -- the first elements stand in relation to all of the other list
  pub record HasFirst (R : A → B → Type 0) (xs rest : List A) (ys : List B) : Type 0 where
    pub first : List A
    pub split : xs ≡ first ++ rest
    pub each : AllZip R first ys

  pub none_first : (R : A → B → Type 0) (xs rest : List A) (ys : List B) → xs ≡ rest → ys ≡ [] → HasFirst R xs rest ys
  none_first R xs rest ys same none = record { first = []; split = same; each = subst (AllZip R []) (sym none) tt }

  pub one_more : (R : A → B → Type 0) (xs rest next : List A) (ys now : List B) (x : A) (y : B) → HasFirst R xs rest ys → rest ≡ x ∷ next → now ≡ ys ++ y ∷ [] → R x y → HasFirst R xs next now
  one_more R xs rest next ys now x y h is grown r = record {
    first = h.first ++ x ∷ [];
    split = h.split ∙ (ap (λ (zs : List A). h.first ++ zs) is ∙ sym (append_assoc h.first (x ∷ []) next));
    each = subst (AllZip R (h.first ++ x ∷ [])) (sym grown) (zip_push R h.first ys x y h.each r);
  }

  pub all_first : (R : A → B → Type 0) (xs rest : List A) (ys : List B) → HasFirst R xs rest ys → length rest ≡ 0 → AllZip R xs ys
  all_first R xs [] ys h none = subst (λ (zs : List A). AllZip R zs ys) (sym (h.split ∙ append-nil h.first)) h.each
  all_first R xs (x ∷ rest) ys h none = absurd (omega arith)

-- what is read of the elements of one list and of those of another one, where each has one more
pub reads_more : {A B C : Type 0} (f : A → C) (h : B → C) (xs now : List A) (ys : List B) (x : A) (y : B)
    → map f xs ≡ map h ys → now ≡ xs ++ x ∷ [] → f x ≡ h y → map f now ≡ map h (ys ++ y ∷ [])
reads_more f h xs now ys x y same grown one =
    ap (map f) grown ∙ (map-append f xs (x ∷ []) ∙ ((λ k. same k ++ one k ∷ []) ∙ sym (map-append h ys (y ∷ []))))

pub reads_more_so : {A C : Type 0} (f : A → C) (xs now : List A) (cs grown_cs : List C) (x : A) (c : C)
    → map f xs ≡ cs → now ≡ xs ++ x ∷ [] → grown_cs ≡ cs ++ c ∷ [] → f x ≡ c → map f now ≡ grown_cs
reads_more_so f xs now cs grown_cs x c same grown grown_too one =
    ap (map f) grown ∙ (map-append f xs (x ∷ []) ∙ ((λ k. same k ++ one k ∷ []) ∙ sym grown_too))

-- what holds of a number of each element of one list holds of the same numbers of the other one
pub holds_of_each : {A B : Type 0} (P : ℕ → Type 0) (f : A → ℕ) (h : B → ℕ) (xs : List A) (ys : List B)
    → map f xs ≡ map h ys → All (λ (y : B). P (h y)) ys → All (λ (x : A). P (f x)) xs
holds_of_each {A} P f h [] ys same all = All-nil (λ (x : A). P (f x))
holds_of_each P f h (x ∷ xs) [] same all = absurd (cc)
holds_of_each {A} {B} P f h (x ∷ xs) (y ∷ ys) same all =
    let one : h y ≡ f x = (cc) in
    let rest : map f xs ≡ map h ys = (cc) in
    All-cons (λ (x : A). P (f x)) x xs (subst P one (All-head (λ (y : B). P (h y)) y ys all)) (holds_of_each P f h xs ys rest (All-tail (λ (y : B). P (h y)) y ys all))
