-- How high a balanced tree of rows with different pairs can be.
use Rattle.std.proofs.Common.{◌≡◌, ℕ, zero, suc, ◌+◌, ◌-◌, ◌^◌, ◌<◌, ◌≤◌, max, List, [], ◌∷◌, ◌++◌, length, Option, Box, Global, refl, subst, inl, inr, arith, lit<, zero-add, length-append}
use Rattle.std.proofs.lemmas.Bool.{cases_order}
use Rattle.std.specs.List.{AllByRecursion}
use Rattle.venue_words.specs.declared.row.Row.{Row}
use Rattle.limit_tree.specs.Order.{row_rank, IsOrdered}
use Rattle.limit_tree.specs.Part.{Part, series, fewest, DifferByAtMost}
use Rattle.limit_tree.specs.Link.{link_rows, link_height, IsFull}

series-step : (a b n : ℕ) → series a b (suc (suc n)) ≡ series a b n + series a b (suc n)
series-step a b zero = refl
series-step a b (suc n) = series-step b (a + b) n

series-rises : (a b n : ℕ) → a ≤ b → series a b n ≤ series a b (suc n)
series-rises a b zero h = h
series-rises a b (suc n) h = series-rises b (a + b) n (omega arith)

series-doubles : (a b n : ℕ) → a ≤ b → b ≤ a + a → series a b (suc n) ≤ series a b n + series a b n
series-doubles a b zero h k = k
series-doubles a b (suc n) h k = series-doubles b (a + b) n (omega arith) (omega arith)

fewest-rises : (n k : ℕ) → fewest n ≤ fewest (k + n)
fewest-rises n zero = rw (zero-add n) (omega arith)
fewest-rises n (suc k) =
    let h : fewest n ≤ fewest (k + n) = fewest-rises n k in
    let s : fewest (k + n) ≤ fewest (suc (k + n)) = series-rises 1 2 (k + n) (omega arith) in
    let e : suc k + n ≡ suc (k + n) = omega arith in
    rw e (omega (arith, h, s))

-- a node over two balanced sides
pub fewest-attach : (l r : ℕ) → DifferByAtMost 1 l r → fewest (max l r + 1) ≤ fewest l + fewest r
fewest-attach l r d =
    elim (cases_order l r) [
      | inl same ↦
          let m : max l r + 1 ≡ suc l = omega arith in
          let s : fewest (suc l) ≤ fewest l + fewest l = series-doubles 1 2 l (omega arith) (omega arith) in
          rw (m, ← same) s
      | inr (inl less) ↦
          let m : max l r + 1 ≡ suc (suc l) = omega arith in
          let e : r ≡ suc l = omega arith in
          let s : fewest (suc (suc l)) ≡ fewest l + fewest (suc l) = series-step 1 2 l in
          rw (m, e) (omega (arith, s))
      | inr (inr more) ↦
          let m : max l r + 1 ≡ suc (suc r) = omega arith in
          let e : l ≡ suc r = omega arith in
          let s : fewest (suc (suc r)) ≡ fewest r + fewest (suc r) = series-step 1 2 r in
          rw (m, e) (omega (arith, s))
    ]

-- a part whose sides are balanced and full is full
pub full_over : (height : ℕ) (left : Option (Box Part Global)) (row : Row) (right : Option (Box Part Global)) → height ≡ max (link_height left) (link_height right) + 1 → DifferByAtMost 1 (link_height left) (link_height right) → IsFull left → IsFull right → fewest height ≤ length (link_rows left ++ row ∷ link_rows right) + 1
full_over height left row right e d l r =
    rw e (omega (arith, fewest-attach (link_height left) (link_height right) d, l, r, length-append (link_rows left) (row ∷ link_rows right)))

-- rows in order have different places
few_from : (low : ℕ) (rows : List Row) → low ≤ 2 ^ 64 → AllByRecursion (λ row. low ≤ row_rank row) rows → IsOrdered rows → low + length rows ≤ 2 ^ 64
few_from low [] fits above ordered = omega arith
few_from low (row ∷ rows) fits above ordered =
    let here : low ≤ row_rank row = above.0 in
    let cap : row.cap < 2 ^ 32 = ordered.0.0 in
    let entry : row.entry < 2 ^ 32 = ordered.0.1 in
    let rest : suc (row_rank row) + length rows ≤ 2 ^ 64 = few_from (suc (row_rank row)) rows (omega arith) ordered.1 ordered.2 in
    omega arith

pub few_rows : (rows : List Row) → IsOrdered rows → length rows ≤ 2 ^ 64
few_rows rows ordered = let h : 0 + length rows ≤ 2 ^ 64 = few_from 0 rows (omega arith) (all_above rows) ordered in omega arith where
  all_above : (rows : List Row) → AllByRecursion (λ row. 0 ≤ row_rank row) rows
  all_above [] = tt
  all_above (row ∷ rows) = (omega arith, all_above rows)

-- no balanced part is higher than 91
pub height_small : (height : ℕ) (rows : List Row) → IsOrdered rows → fewest height ≤ length rows + 1 → height < 92
height_small height rows ordered full =
    let few = few_rows rows ordered in
    let large : 2 ^ 64 + 1 < fewest 92 = lit< tt in
    elim (cases_order height 92) [
      | inl same ↦ absurd (let h = subst (λ n. fewest n ≤ length rows + 1) same full in omega (arith, large, h))
      | inr (inl less) ↦ less
      | inr (inr more) ↦ absurd (let e : height ≡ (height - 92) + 92 = omega arith in let h = fewest-rises 92 (height - 92) in let k : fewest height ≤ length rows + 1 = full in let j : fewest 92 ≤ fewest height = rw e h in omega (arith, large))
    ]
