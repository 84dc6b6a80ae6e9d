-- Increasing lists of numbers, and how often a number stands in one.
use Rattle.std.proofs.Common.{◌≡◌, ℕ, zero, suc, ◌+◌, ◌<◌, ◌≤◌, ◌≢◌, eq-eqb, ne_eqb, List, [], ◌∷◌, ◌++◌, refl, ap, ◌∙◌, arith, Bool, true, false, cond, nat_lt}
use Rattle.std.proofs.lemmas.Bool.{ltb-true, ltb-false}
use Rattle.std.proofs.lemmas.List.Sums.{sum_by-cons, sum_by-append}
use Rattle.std.specs.Prelude.{◌==◌}
use Rattle.std.specs.List.{range_with_len}
use mathlib.Core.Logic.{dite}
use native.Mathlib.Decide.{ℕ_discrete}
use Rattle.turn_gate.specs.Numbers.{IncreasesWithin, times, with_number, merge_of}

lt_at : (n m : ℕ) (P : Bool → Type 0) → (n < m → P true) → (m ≤ n → P false) → (b : Bool) → nat_lt n m ≡ b → P b
lt_at n m P hit miss true is = hit (ltb-true n m is)
lt_at n m P hit miss false is = miss (ltb-false n m is)

pub lt_cases : (n m : ℕ) (P : Bool → Type 0) → (n < m → P true) → (m ≤ n → P false) → P (nat_lt n m)
lt_cases n m P hit miss = lt_at n m P hit miss (nat_lt n m) refl

-- ---- how often a number stands in a list

times_cons : (n m : ℕ) (ms : List ℕ) → times n (m ∷ ms) ≡ cond (n == m) 1 0 + times n ms
times_cons n m ms = sum_by-cons (λ k. cond (n == k) 1 0) m ms

pub times_same : (n m : ℕ) (ms : List ℕ) → n ≡ m → times n (m ∷ ms) ≡ 1 + times n ms
times_same n m ms e = times_cons n m ms ∙ ap (λ (b : Bool). cond b 1 0 + times n ms) (eq-eqb n m e)

pub times_other : (n m : ℕ) (ms : List ℕ) → n ≢ m → times n (m ∷ ms) ≡ 0 + times n ms
times_other n m ms e = times_cons n m ms ∙ ap (λ (b : Bool). cond b 1 0 + times n ms) (ne_eqb n m e)

pub times_append : (n : ℕ) (xs ys : List ℕ) → times n (xs ++ ys) ≡ times n xs + times n ys
times_append n xs ys = sum_by-append (λ k. cond (n == k) 1 0) xs ys

pub times_with : (k n : ℕ) (ms : List ℕ) → times k (with_number n ms) ≡ times k (n ∷ []) + times k ms
times_with k n [] = omega arith
times_with k n (m ∷ ms) =
    let h = times_with k n ms in
    let a = times_cons k n [] in let b = times_cons k n (m ∷ ms) in let c = times_cons k m ms in let d = times_cons k m (with_number n ms) in
    elim (nat_lt n m) as (λ b. times k (cond b (n ∷ m ∷ ms) (m ∷ with_number n ms)) ≡ times k (n ∷ []) + times k (m ∷ ms)) [ true ↦ omega arith | false ↦ omega arith ]

pub times_merge : (k : ℕ) (ns ms : List ℕ) → times k (merge_of ns ms) ≡ times k ns + times k ms
times_merge k [] ms = omega arith
times_merge k (n ∷ ns) ms =
    let h = times_merge k ns ms in let p = times_with k n (merge_of ns ms) in
    let a = times_cons k n [] in let b = times_cons k n ns in omega arith

-- ---- increasing lists

pub increases_more : (low most more : ℕ) (ns : List ℕ) → IncreasesWithin low most ns → most ≤ more → IncreasesWithin low more ns
increases_more low most more [] r le = let h : low ≤ most = r in omega arith
increases_more low most more (n ∷ ns) r le = (r.0, increases_more n most more ns r.1 le)

pub increases_push : (low most n : ℕ) (ns : List ℕ) → IncreasesWithin low most ns → most < n → IncreasesWithin low n (ns ++ n ∷ [])
increases_push low most n [] r lt = let h : low ≤ most = r in (omega arith, omega arith)
increases_push low most n (m ∷ ns) r lt = (r.0, increases_push m most n ns r.1 lt)

increases_le : (low most : ℕ) (ns : List ℕ) → IncreasesWithin low most ns → low ≤ most
increases_le low most [] r = r
increases_le low most (n ∷ ns) r = let h = increases_le n most ns r.1 in let l = r.0 in omega arith

increases_lower : (low lower most : ℕ) (ns : List ℕ) → lower ≤ low → IncreasesWithin low most ns → IncreasesWithin lower most ns
increases_lower low lower most [] le r = let h : low ≤ most = r in omega arith
increases_lower low lower most (n ∷ ns) le r = (let l = r.0 in omega arith, r.1)

pub times_below : (low most m : ℕ) (ns : List ℕ) → IncreasesWithin low most ns → m ≤ low → times m ns ≡ 0
times_below low most m [] r le = refl
times_below low most m (n ∷ ns) r le =
    let l = r.0 in let h = times_below n most m ns r.1 (omega arith) in let t = times_other m n ns (λ e. omega arith) in omega arith

-- an increasing list in which each number of a range stands once is the range
pub is_range : (low most count : ℕ) (ns : List ℕ) → IncreasesWithin low most ns → most ≤ low + count
    → ((n : ℕ) → low < n → n ≤ low + count → times n ns ≡ 1) → ns ≡ range_with_len (low + 1) count
is_range low most zero [] r le once = refl
is_range low most (suc k) [] r le once = let h : times (low + 1) [] ≡ 1 = once (low + 1) (omega arith) (omega arith) in absurd (omega arith)
is_range low most zero (n ∷ ns) r le once = let l = r.0 in let h = increases_le n most ns r.1 in absurd (omega arith)
is_range low most (suc k) (n ∷ ns) r le once =
    let l = r.0 in
    dite (ℕ_discrete n (low + 1))
    (λ is.
    let more = is_range n most k ns r.1 (omega arith)
    (λ m lo hi. let h = once m (omega arith) (omega arith) in let t = times_other m n ns (λ e. omega arith) in omega arith) in
    (λ i. is i ∷ more i) ∙ ap (λ (z : ℕ). (low + 1) ∷ range_with_len (z + 1) k) is)
    (λ not.
    let h = once (low + 1) (omega arith) (omega arith) in
    let t = times_other (low + 1) n ns (λ e. omega arith) in
    let z = times_below n most (low + 1) ns r.1 (omega arith) in absurd (omega arith))

increases_with : (low most n : ℕ) (ms : List ℕ) → IncreasesWithin low most ms → low < n → n ≤ most → times n ms ≡ 0 → IncreasesWithin low most (with_number n ms)
increases_with low most n [] r lo hi none = (lo, hi)
increases_with low most n (m ∷ ms) r lo hi none =
    let not : n ≢ m = λ e. let t = times_same n m ms e in omega arith in
    let t = times_other n m ms not in
    lt_cases n m (λ b. IncreasesWithin low most (cond b (n ∷ m ∷ ms) (m ∷ with_number n ms)))
    (λ lt. (lo, (lt, r.1)))
    (λ le. (r.0, increases_with m most n ms r.1 (omega arith) hi (omega arith)))

pub increases_merge : (low most : ℕ) (ns ms : List ℕ) → IncreasesWithin low most ns → IncreasesWithin low most ms → ((k : ℕ) → times k ns + times k ms ≤ 1)
    → IncreasesWithin low most (merge_of ns ms)
increases_merge low most [] ms r q once = q
increases_merge low most (n ∷ ns) ms r q once =
    let tail : (k : ℕ) → times k ns + times k ms ≤ 1 = λ k. let h = once k in let c = times_cons k n ns in omega arith in
    let more = increases_merge low most ns ms (increases_lower n low most ns (let l = r.0 in omega arith) r.1) q tail in
    let h = once n in
    let self = times_same n n ns refl in
    let t = times_merge n ns ms in
    increases_with low most n (merge_of ns ms) more r.0 (increases_le n most ns r.1) (omega arith)
