-- How text goes on to a sink from call to call.
use Rattle.std.proofs.Common.{◌≡◌, ◌≤◌, ◌<◌, ℕ, ◌+◌, List, [], ◌∷◌, ◌++◌, length, take, drop, get_or, Option, Some, None, sym, ◌∙◌, ap, subst, append_assoc, append-nil, arith}
use Rattle.std.specs.Prelude.{min, Result, Ok, Err, MatchResult}
use Rattle.std.specs.Result.{IsErrAnd}
use Rattle.std.specs.List.{flat_map}
use Rattle.std.proofs.lemmas.Grind.{flat_map-append}
use Rattle.std.proofs.lemmas.List.{take-append-le, take-append-drop, take_min, take_more}
use Rattle.std.proofs.lemmas.List.Concat.{flat_map-cons}
use Rattle.std.proofs.Math.Seq.{take-append-add}
use Rattle.std.specs.Io.KnownBytes.{Appends}
use Rattle.venue_words.specs.Causes.{Rose}
use Rattle.io_edge.specs.Grows.{AppendsPrefix}
use Rattle.listing.specs.Handing.{Hands, HandsOn}

pub appends_none : (t : Option (List ℕ)) → Appends t t []
appends_none None = tt
appends_none (Some xs) = sym (append-nil xs)

pub appends_trans : (a b c : Option (List ℕ)) (p q : List ℕ) → Appends a b p → Appends b c q → Appends a c (p ++ q)
appends_trans None b c p q h k = tt
appends_trans (Some xs) None c p q h k = absurd h
appends_trans (Some xs) (Some ys) None p q h k = absurd k
appends_trans (Some xs) (Some ys) (Some zs) p q h k = rw (k, h) (append_assoc xs p q)

-- nothing was told, and the text is held
pub hands_none : (t : Option (List ℕ)) (x y s : List ℕ) → y ≡ x ++ s → Hands t t x y s
hands_none t x y s is = record { done = []; grew = appends_none t; rest = is }

pub hands_trans : (a b c : Option (List ℕ)) (x y z s t : List ℕ) → Hands a b x y s → Hands b c y z t → Hands a c x z (s ++ t)
hands_trans a b c x y z s t p q = record {
  done = p.done ++ q.done;
  grew = appends_trans a b c p.done q.done p.grew q.grew;
  rest = append_assoc p.done q.done z
      ∙ ap (λ (w : List ℕ). p.done ++ w) q.rest
      ∙ sym (append_assoc p.done y t)
      ∙ ap (λ (w : List ℕ). w ++ t) p.rest
      ∙ append_assoc x s t;
}

-- it stopped behind some text
pub stops_after : (a b c : Option (List ℕ)) (x y s t : List ℕ) → Hands a b x y s → AppendsPrefix b c (y ++ t) → AppendsPrefix a c (x ++ (s ++ t))
stops_after a b c x y s t p q =
    let same : p.done ++ (y ++ t) ≡ x ++ (s ++ t) =
    sym (append_assoc p.done y t) ∙ ap (λ (w : List ℕ). w ++ t) p.rest ∙ append_assoc x s t in (
      length p.done + q.0,
      subst (Appends a c) (sym (take-append-add p.done (y ++ t) q.0) ∙ ap (take (length p.done + q.0)) same)
          (appends_trans a b c p.done (take q.0 (y ++ t)) p.grew q.1),
    )

-- it stopped there, and nothing more was told
pub stops_here : (a b : Option (List ℕ)) (x y s t : List ℕ) → Hands a b x y s → AppendsPrefix a b (x ++ (s ++ t))
stops_here a b x y s t p = stops_after a b b x y s t p (0, appends_none b)

-- it stopped in the first part of a text
pub stops_early : (a c : Option (List ℕ)) (x s t : List ℕ) → AppendsPrefix a c (x ++ s) → AppendsPrefix a c (x ++ (s ++ t))
stops_early a c x s t p =
    let k = min p.0 (length (x ++ s)) in
    let same : take k (x ++ (s ++ t)) ≡ take p.0 (x ++ s) =
    ap (take k) (sym (append_assoc x s t))
    ∙ take-append-le k (x ++ s) t (omega arith)
    ∙ take_min p.0 (x ++ s) in
    (k, subst (Appends a c) (sym same) p.1)

-- more text is held
pub hands_more : (t u : Option (List ℕ)) (x y z s more : List ℕ) → Hands t u x y s → z ≡ y ++ more → Hands t u x z (s ++ more)
hands_more t u x y z s more p is = hands_trans t u u x y z s more p (hands_none u y z more is)

-- some of it is put
pub hands_put : (t u v : Option (List ℕ)) (x y z s : List ℕ) → Hands t u x y s → Hands u v y z [] → Hands t v x z s
hands_put t u v x y z s p q = subst (Hands t v x z) (append-nil s) (hands_trans t u v x y z s [] p q)

-- a put failed
pub stops_put : (t u v : Option (List ℕ)) (x y s more : List ℕ) → Hands t u x y s → AppendsPrefix u v (y ++ [])
    → AppendsPrefix t v (x ++ (s ++ more))
stops_put t u v x y s more p q =
    stops_early t v x s more
    (subst (λ (l : List ℕ). AppendsPrefix t v (x ++ l)) (append-nil s) (stops_after t u v x y s [] p q))

-- all was put
pub hands_all : (t u : Option (List ℕ)) (x s : List ℕ) → Hands t u x [] s → Appends t u (x ++ s)
hands_all t u x s p = subst (Appends t u) (sym (append-nil p.done) ∙ p.rest) p.grew

pub rose_on : (before mid now : ℕ) → before ≤ mid → Rose mid now → Rose before now
rose_on before mid now le rose = omega arith

pub flat_parts : {A : Type 0} (f : A → List ℕ) (i : ℕ) (xs : List A) → flat_map f (take i xs) ++ flat_map f (drop i xs) ≡ flat_map f xs
flat_parts f i xs = sym (flat_map-append f (take i xs) (drop i xs)) ∙ ap (flat_map f) (take-append-drop i xs)

pub flat_next : {A : Type 0} (f : A → List ℕ) (i : ℕ) (xs : List A) (x : A) → i < length xs → x ≡ get_or xs i x
    → flat_map f (take (i + 1) xs) ≡ flat_map f (take i xs) ++ f x
flat_next f i xs x lt is =
    let y = get_or xs i x in
    ap (flat_map f) (take_more xs i x lt)
    ∙ flat_map-append f (take i xs) (y ∷ [])
    ∙ ap (λ (l : List ℕ). flat_map f (take i xs) ++ l) (flat_map-cons f y [] ∙ append-nil (f y) ∙ ap f (sym is))

-- what holds behind an error
pub at_err : {T E : Type 0} (S : E → Type 0) (r : Result T E) (P : T → Type 0) (Q : Type 0) → IsErrAnd r S → Q → MatchResult r P (λ _. Q)
at_err S (Ok x) P Q is q = absurd is
at_err S (Err y) P Q is q = q

-- text behind text that is on its way
pub hands_then : {T E : Type 0} (t u v : Option (List ℕ)) (x y z s more : List ℕ) (r : Result T E) → Hands t u x y s
    → HandsOn u v y z more r → HandsOn t v x z (s ++ more) r
hands_then t u v x y z s more (Ok a) p q = hands_trans t u v x y z s more p q
hands_then t u v x y z s more (Err e) p q = stops_after t u v x y s more p q
