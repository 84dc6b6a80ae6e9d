-- The national quote that is computed is the one that is meant.
use Rattle.std.proofs.Common.{◌≡◌, ℕ, ◌≤◌, min, max, List, [], ◌∷◌, ◌++◌, map, Option, Some, None, ◌⊎◌, inl, inr, refl, sym, subst, arith}
use Rattle.std.specs.Prelude.{Contains, IfSome, fold}
use Rattle.std.proofs.lemmas.Bool.{cases_lt}
use Rattle.std.proofs.lemmas.List.{append-nil}
use Rattle.std.proofs.Math.Seq.{append_snoc}
use Rattle.std.proofs.lemmas.List.Elements.{All-push, Contains-push, Contains-append_left}
use Rattle.venue_words.specs.declared.price.Best.{Best}
use Rattle.venue_words.specs.Best.{IsGreatest, IsLeast, IsNationalBest, either_by, greatest, least, best_of}

at_most_of_none : (m : ℕ) (x : Option ℕ) → x ≡ None → IfSome x (λ n. n ≤ m)
at_most_of_none m x h = subst (λ (o : Option ℕ). IfSome o (λ n. n ≤ m)) (sym h) tt

at_most_more : (m k : ℕ) → m ≤ k → (x : Option ℕ) → IfSome x (λ n. n ≤ m) → IfSome x (λ n. n ≤ k)
at_most_more m k h None p = tt
at_most_more m k h (Some n) p = omega arith

at_least_of_none : (m : ℕ) (x : Option ℕ) → x ≡ None → IfSome x (λ n. m ≤ n)
at_least_of_none m x h = subst (λ (o : Option ℕ). IfSome o (λ n. m ≤ n)) (sym h) tt

at_least_more : (m k : ℕ) → k ≤ m → (x : Option ℕ) → IfSome x (λ n. m ≤ n) → IfSome x (λ n. k ≤ n)
at_least_more m k h None p = tt
at_least_more m k h (Some n) p = omega arith

-- a choice of two numbers that are there is there
chosen : (xs : List (Option ℕ)) (m n k : ℕ) → (k ≡ m) ⊎ (k ≡ n) → Contains xs (Some m) → Contains (xs ++ Some n ∷ []) (Some k)
chosen xs m n k (inl e) h = subst (λ (j : ℕ). Contains (xs ++ Some n ∷ []) (Some j)) (sym e) (Contains-append_left xs (Some n ∷ []) (Some m) h)
chosen xs m n k (inr e) h = subst (λ (j : ℕ). Contains (xs ++ Some n ∷ []) (Some j)) (sym e) (Contains-push xs (Some n))

max_chosen : (m n : ℕ) → (max m n ≡ m) ⊎ (max m n ≡ n)
max_chosen m n = elim (cases_lt m n) [ inl h ↦ inr (omega arith) | inr h ↦ inl (omega arith) ]

min_chosen : (m n : ℕ) → (min m n ≡ m) ⊎ (min m n ≡ n)
min_chosen m n = elim (cases_lt m n) [ inl h ↦ inl (omega arith) | inr h ↦ inr (omega arith) ]

-- one more bid
greatest_push : (xs : List (Option ℕ)) (m x : Option ℕ) → IsGreatest xs m → IsGreatest (xs ++ x ∷ []) (either_by max m x)
greatest_push xs None None h = All-push (λ o. o ≡ None) xs None h refl
greatest_push xs None (Some n) h =
    (Contains-push xs (Some n), All-push (λ o. IfSome o (λ k. k ≤ n)) xs (Some n) (λ k d l. at_most_of_none n _ (h k d l)) (omega arith))
greatest_push xs (Some m) None h = (Contains-append_left xs (None ∷ []) (Some m) h.0, All-push (λ o. IfSome o (λ k. k ≤ m)) xs None h.1 tt)
greatest_push xs (Some m) (Some n) h = (
  chosen xs m n (max m n) (max_chosen m n) h.0,
  All-push (λ o. IfSome o (λ k. k ≤ max m n)) xs (Some n) (λ k d l. at_most_more m (max m n) (omega arith) _ (h.1 k d l)) (omega arith),
)

-- one more offer
least_push : (xs : List (Option ℕ)) (m x : Option ℕ) → IsLeast xs m → IsLeast (xs ++ x ∷ []) (either_by min m x)
least_push xs None None h = All-push (λ o. o ≡ None) xs None h refl
least_push xs None (Some n) h =
    (Contains-push xs (Some n), All-push (λ o. IfSome o (λ k. n ≤ k)) xs (Some n) (λ k d l. at_least_of_none n _ (h k d l)) (omega arith))
least_push xs (Some m) None h = (Contains-append_left xs (None ∷ []) (Some m) h.0, All-push (λ o. IfSome o (λ k. m ≤ k)) xs None h.1 tt)
least_push xs (Some m) (Some n) h = (
  chosen xs m n (min m n) (min_chosen m n) h.0,
  All-push (λ o. IfSome o (λ k. min m n ≤ k)) xs (Some n) (λ k d l. at_least_more m (min m n) (omega arith) _ (h.1 k d l)) (omega arith),
)

greatest_from : (done rest : List (Option ℕ)) (m : Option ℕ) → IsGreatest done m → IsGreatest (done ++ rest) (fold (either_by max) m rest)
greatest_from done [] m h = subst (λ (ys : List (Option ℕ)). IsGreatest ys m) (sym (append-nil done)) h
greatest_from done (x ∷ xs) m h =
    subst (λ (ys : List (Option ℕ)). IsGreatest ys (fold (either_by max) (either_by max m x) xs)) (append_snoc done x xs)
    (greatest_from (done ++ x ∷ []) xs (either_by max m x) (greatest_push done m x h))

least_from : (done rest : List (Option ℕ)) (m : Option ℕ) → IsLeast done m → IsLeast (done ++ rest) (fold (either_by min) m rest)
least_from done [] m h = subst (λ (ys : List (Option ℕ)). IsLeast ys m) (sym (append-nil done)) h
least_from done (x ∷ xs) m h =
    subst (λ (ys : List (Option ℕ)). IsLeast ys (fold (either_by min) (either_by min m x) xs)) (append_snoc done x xs)
    (least_from (done ++ x ∷ []) xs (either_by min m x) (least_push done m x h))

pub greatest_is_meant : (xs : List (Option ℕ)) → IsGreatest xs (greatest xs)
greatest_is_meant xs = greatest_from [] xs None (λ k d l. absurd (omega arith))

pub least_is_meant : (xs : List (Option ℕ)) → IsLeast xs (least xs)
least_is_meant xs = least_from [] xs None (λ k d l. absurd (omega arith))

-- the computed national quote is the national quote
pub best_of_is_meant : (rows : List Best) → IsNationalBest rows (best_of rows)
unfolding best_of
best_of_is_meant rows = record { bid = greatest_is_meant (map (λ row. row.bid) rows); offer = least_is_meant (map (λ row. row.offer) rows) }
