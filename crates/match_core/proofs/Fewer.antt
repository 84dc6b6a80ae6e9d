-- Each trade empties a row, or the taker.
use Rattle.std.proofs.Common.{◌≡◌, ◌⊎◌, ℕ, suc, ◌+◌, ◌-◌, ◌<◌, ◌≤◌, min, nat_lt, true, false, cond, List, [], ◌∷◌, ◌++◌, filter, length, refl, ap, sym, ◌∙◌, arith, inl, inr, length-append}
use Rattle.std.proofs.lemmas.Bool.{lt-ltb, le-ltb}
use Rattle.venue_words.specs.declared.row.Priced.{Priced}
use Rattle.eager_meaning.specs.declared.trade.Fill.{Fill}
use Rattle.eager_meaning.specs.declared.trade.Take.{Take}
use Rattle.eager_meaning.specs.Walk.{walk, taken_from, total_of}
use Rattle.eager_meaning.specs.Matching.{row_after, fills_of, unfilled}
use Rattle.peg_groups.specs.Merge.{below_or_not}
use Rattle.match_core.specs.Aside.{PassesAll, Gathered, finals, put_filled, put_filled_one}
use Rattle.match_core.specs.Sweeping.{one_if_left}
use Rattle.match_core.proofs.SetAside.{length_insert, walk_none}
use Rattle.match_core.proofs.Trades.{walk_next}
use Rattle.match_core.proofs.AfterTrades.{length_put_in, all_or_none}

pub one_some : (n : ℕ) → 0 < n → one_if_left n ≡ 1
one_some n h = rw (lt-ltb 0 n h) refl

pub one_none : (n : ℕ) → n ≡ 0 → one_if_left n ≡ 0
one_none n h = rw (le-ltb 0 n (omega arith)) refl

pub one_most : (n : ℕ) → one_if_left n ≤ 1
one_most n = elim (nat_lt 0 n) as (λ b. cond b 1 0 ≤ 1) [ true ↦ omega arith | false ↦ omega arith ]

-- a row that comes back counts where it has shares left
pub length_one : (x : Priced) (rows : List Priced) → length (put_filled_one x rows) ≡ one_if_left x.row.leaves + length rows
length_one x rows = elim (below_or_not 0 x.row.leaves) [
  | inl some ↦ let l = length_insert x rows in rw (lt-ltb 0 x.row.leaves some) (omega (arith, l))
  | inr none ↦ rw (le-ltb 0 x.row.leaves none) (omega arith)
]

-- how many of them have shares left
abbrev count_left : List Priced → ℕ
count_left [] = 0
count_left (x ∷ xs) = one_if_left x.row.leaves + count_left xs

length_filled : (xs rows : List Priced) → length (put_filled xs rows) ≡ count_left xs + length rows
length_filled [] rows = omega arith
length_filled (x ∷ xs) rows = let h = length_filled xs (put_filled_one x rows) in let k = length_one x rows in omega (arith, h, k)

pub after_leaves : (n : ℕ) (x : Priced) → (row_after n x).row.leaves ≡ x.row.leaves - n
unfolding row_after
after_leaves n x = refl

abbrev positive : List Take → List Take
positive takes = filter (λ take. nat_lt 0 take.shares) takes

taken_count : (take : Take) (takes : List Take) → length (positive (take ∷ takes)) ≡ one_if_left take.shares + length (positive takes)
taken_count take takes = elim (nat_lt 0 take.shares) as (λ b. length (cond b (take ∷ positive takes) (positive takes)) ≡ cond b 1 0 + length (positive takes)) [ true ↦ omega arith | false ↦ omega arith ]

step_some : (left leaves n a b c rest : ℕ) → (n ≡ 0) ⊎ (n ≡ min left leaves) → 0 < left → a + b + c ≤ rest + one_if_left (left - n) → (one_if_left n + a) + (one_if_left (leaves - n) + b) + c ≤ suc rest + one_if_left left
step_some left leaves n a b c rest o h i = elim o [
  | inl e ↦ let w = one_some left h in let x = one_none n e in let y = one_most (leaves - n) in let z = one_most (left - n) in omega (arith, w, x, y, z, i)
  | inr e ↦ let w = one_some left h in let x = one_most n in elim (below_or_not left leaves) [
    | inl less ↦ let y = one_none (left - n) (omega (arith, e)) in let z = one_most (leaves - n) in omega (arith, w, x, y, z, i)
    | inr more ↦ let y = one_none (leaves - n) (omega (arith, e)) in let z = one_most (left - n) in omega (arith, w, x, y, z, i)
  ]
]

few_settled : (t : Priced) (left rest : ℕ) (xs : List Priced) → PassesAll t left xs rest → length (positive (walk t left xs)) + count_left (finals t left xs) + one_if_left rest ≤ length xs + one_if_left left
few_settled t left rest [] p = rw (walk_none t left, p) (omega arith)
few_settled t left rest (x ∷ xs) p =
    let n = taken_from t.row left x.row in
    let i = few_settled t (left - n) rest xs p.2 in
    let count = ap (λ (takes : List Take). length (positive takes)) (walk_next t left x xs p.0 p.1) ∙ taken_count (record { contra = x; shares = n }) (walk t (left - n) xs) in
    rw (count, after_leaves n x) (step_some left x.row.leaves n (length (positive (walk t (left - n) xs))) (count_left (finals t (left - n) xs)) (one_if_left rest) (length xs) (all_or_none t.row x.row left) p.1 i)

whole : (t : Priced) (old new aside : List Priced) (left : ℕ) → Gathered t old new aside left → length old ≡ length aside + length new
whole t old new aside left g = ap length (sym g.back) ∙ length_put_in aside new

-- where a walk stands
pub few_stands : (t : Priced) (old new aside : List Priced) (left : ℕ) → Gathered t old new aside left → length (positive (walk t t.row.leaves aside)) + (length (put_filled (finals t t.row.leaves aside) new) + one_if_left left) ≤ length old + 1
few_stands t old new aside left g =
    let a = few_settled t t.row.leaves left aside g.passes in
    let b = length_filled (finals t t.row.leaves aside) new in
    let d = whole t old new aside left g in
    let e = one_most t.row.leaves in
    omega (arith, a, b, d, e)

most_left : (xs : List Priced) → count_left xs ≤ length xs
most_left [] = omega arith
most_left (x ∷ xs) = let a = one_most x.row.leaves in let b = most_left xs in omega (arith, a, b)

-- where it doesn't
pub few_falls : (t : Priced) (old new aside : List Priced) (left : ℕ) → Gathered t old new aside left → length (put_filled aside new) ≤ length old
few_falls t old new aside left g =
    let b = length_filled aside new in
    let d = whole t old new aside left g in
    let e = most_left aside in
    omega (arith, b, d, e)

pub length_fills : (t : Priced) (takes : List Take) → length (fills_of t takes) ≡ length takes
unfolding fills_of
length_fills t [] = refl
length_fills t (take ∷ takes) = ap suc (length_fills t takes)

pub few_then : (t : Priced) (old mid aside new : List Priced) (left : ℕ) (before after : List Fill) → Gathered t old mid aside left → total_of (walk t t.row.leaves aside) + left ≡ t.row.leaves → after ≡ before ++ fills_of t (positive (walk t t.row.leaves aside)) → new ≡ put_filled (finals t t.row.leaves aside) mid → length after + (length new + one_if_left (t.row.leaves - (t.row.leaves - left))) ≤ length before + (length old + 1)
few_then t old mid aside new left before after g total e d =
    let few = few_stands t old mid aside left g in
    let rest : t.row.leaves - (t.row.leaves - left) ≡ left = omega (arith, total) in
    let a = ap length e ∙ length-append before (fills_of t (positive (walk t t.row.leaves aside))) in
    let b = length_fills t (positive (walk t t.row.leaves aside)) in
    rw (rest, d) (omega (arith, few, a, b))

pub few_else : (t : Priced) (old mid aside new : List Priced) (left before : ℕ) → Gathered t old mid aside left → new ≡ put_filled aside mid → before + (length new + one_if_left (t.row.leaves - 0)) ≤ before + (length old + 1)
few_else t old mid aside new left before g d =
    let few = few_falls t old mid aside left g in
    let one = one_most (t.row.leaves - 0) in
    rw d (omega (arith, few, one))

-- what is left of a taker counts on its own side
pub length_left : (n : ℕ) (t : Priced) (own : List Priced) → length (own ++ unfilled (row_after n t ∷ [])) ≡ length own + one_if_left (t.row.leaves - n)
length_left n t own =
    let parts = length-append own (unfilled (row_after n t ∷ [])) in
    let one = ap (λ (m : ℕ). length (cond (nat_lt 0 m) (row_after n t ∷ []) [])) (after_leaves n t) in
    let last = elim (nat_lt 0 (t.row.leaves - n)) as (λ b. length (cond b (row_after n t ∷ []) []) ≡ cond b 1 0) [ true ↦ refl | false ↦ refl ] in
    omega (arith, parts, one, last)
