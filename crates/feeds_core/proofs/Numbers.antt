-- How often numbers stand in lists, and how long lists are.
use Rattle.std.proofs.Common.{◌≡◌, ℕ, zero, suc, ◌+◌, ◌<◌, ◌≤◌, ◌≢◌, ◌==◌, eq-eqb, ne_eqb, List, [], ◌∷◌, length, refl, ap, ◌∙◌, arith, zero-add, Bool, true, false, cond, nat_lt}
use Rattle.std.specs.List.{range_with_len}
use Rattle.std.proofs.lemmas.List.Sums.{sum_by-cons}
use mathlib.Core.Logic.{dite}
use native.Mathlib.Decide.{ℕ_discrete}
use Rattle.turn_gate.specs.Numbers.{times, with_number, merge_of}

times_cons : (n m : ℕ) (ms : List ℕ) → times n (m ∷ ms) ≡ cond (n == m) 1 0 + times n ms
times_cons n m ms = sum_by-cons (λ k. cond (n == k) 1 0) m ms

pub times_same : (n m : ℕ) (ms : List ℕ) → n ≡ m → times n (m ∷ ms) ≡ 1 + times n ms
times_same n m ms e = times_cons n m ms ∙ ap (λ (b : Bool). cond b 1 0 + times n ms) (eq-eqb n m e)

pub times_other : (n m : ℕ) (ms : List ℕ) → n ≢ m → times n (m ∷ ms) ≡ times n ms
times_other n m ms e = times_cons n m ms ∙ ap (λ (b : Bool). cond b 1 0 + times n ms) (ne_eqb n m e) ∙ zero-add (times n ms)

times_with : (k n : ℕ) (ms : List ℕ) → times k (with_number n ms) ≡ times k (n ∷ []) + times k ms
times_with k n [] = omega arith
times_with k n (m ∷ ms) =
    let h = times_with k n ms in
    let a = times_cons k n [] in let b = times_cons k n (m ∷ ms) in let c = times_cons k m ms in let d = times_cons k m (with_number n ms) in
    elim (nat_lt n m) as (λ b. times k (cond b (n ∷ m ∷ ms) (m ∷ with_number n ms)) ≡ times k (n ∷ []) + times k (m ∷ ms)) [ true ↦ omega arith | false ↦ omega arith ]

pub times_merge : (k : ℕ) (ns ms : List ℕ) → times k (merge_of ns ms) ≡ times k ns + times k ms
times_merge k [] ms = omega arith
times_merge k (n ∷ ns) ms =
    let h = times_merge k ns ms in let p = times_with k n (merge_of ns ms) in
    let a = times_cons k n [] in let b = times_cons k n ns in omega arith

length_with : (n : ℕ) (ms : List ℕ) → length (with_number n ms) ≡ 1 + length ms
length_with n [] = refl
length_with n (m ∷ ms) =
    let h = length_with n ms in
    elim (nat_lt n m) as (λ b. length (cond b (n ∷ m ∷ ms) (m ∷ with_number n ms)) ≡ 1 + length (m ∷ ms)) [ true ↦ omega arith | false ↦ omega arith ]

pub length_merge : (ns ms : List ℕ) → length (merge_of ns ms) ≡ length ns + length ms
length_merge [] ms = omega arith
length_merge (n ∷ ns) ms = omega (arith, length_with n (merge_of ns ms), length_merge ns ms)

-- each number of a range stands there once
pub times_range : (first count n : ℕ) → first ≤ n → n < first + count → times n (range_with_len first count) ≡ 1
times_range first zero n from below = absurd (omega arith)
times_range first (suc count) n from below =
    dite (ℕ_discrete n first)
    (λ is. omega (arith, times_same n first (range_with_len (first + 1) count) is, times_past (first + 1) count n (omega (arith, is))))
    (λ not. times_other n first (range_with_len (first + 1) count) not ∙ times_range (first + 1) count n (omega arith) (omega arith))
  where
    times_past : (first count n : ℕ) → n < first → times n (range_with_len first count) ≡ 0
    times_past first zero n lt = refl
    times_past first (suc count) n lt =
        times_other n first (range_with_len (first + 1) count) (λ e. omega (arith, e, lt)) ∙ times_past (first + 1) count n (omega arith)

pub length_range : (first count : ℕ) → length (range_with_len first count) ≡ count
length_range first zero = refl
length_range first (suc count) = ap suc (length_range (first + 1) count)
