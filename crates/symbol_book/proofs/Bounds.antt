-- The steps of an event are within its bound.
use Rattle.std.proofs.Common.{◌≡◌, ℕ, ◌+◌, ◌*◌, ◌<◌, ◌≤◌, true, false, cond, List, [], ◌∷◌, length, inl, inr, arith}
use Rattle.std.specs.Prelude.{◌⊎◌, ◌==◌, not}
use Rattle.std.specs.List.{list_any}
use Rattle.std.proofs.Math.Nat.{mul-le-mul_right}
use Rattle.venue_words.specs.declared.row.Priced.{Priced}
use Rattle.venue_words.specs.Key.{same_key}
use Rattle.eager_meaning.specs.Changing.{without}
use Rattle.eager_meaning.specs.Work.{key_count}

-- more is enough
widened : (before after some more : ℕ) → after ≤ before + some → some ≤ more → after ≤ before + more
widened before after some more most less = omega arith

pub quote_within : (before after width groups examined : ℕ) → after ≤ before + 1664 * (width + 2) * (examined + 1) → width ≤ groups → after ≤ before + 4096 * (groups + 1) * (examined + 1)
quote_within before after width groups examined most narrow =
    widened before after _ _ most (mul-le-mul_right (examined + 1) (omega arith))

pub order_within : (before after width groups examined : ℕ) → after ≤ before + 2048 * (width + 1) * (examined + 1) → width ≤ groups + 1 → after ≤ before + 4096 * (groups + 1) * (examined + 1)
order_within before after width groups examined most narrow =
    widened before after _ _ most (mul-le-mul_right (examined + 1) (omega arith))

one_key : (rows : List Priced) → 0 < length rows → 1 ≤ key_count rows
one_key [] some = omega arith
one_key (x ∷ []) some = omega arith
one_key (x ∷ y ∷ ys) some =
    let more = one_key (y ∷ ys) (omega arith) in
    elim (list_any (λ z. same_key x.row.key z.row.key) (y ∷ ys)) as (λ b. 1 ≤ cond b (key_count (y ∷ ys)) (1 + key_count (y ∷ ys))) [ true ↦ more | false ↦ omega arith ]

pub replace_within : (before after width examined : ℕ) (rows : List Priced) → after ≤ before + 2048 + 2048 * (width + 1) * (examined + 1) → width ≤ key_count rows + 1 → (after ≡ before) ⊎ (0 < length rows) → after ≤ before + 4096 * (key_count rows + 1) * (examined + 1)
replace_within before after width examined rows most narrow idle =
    elim idle [
      | inl same ↦ omega arith
      | inr some ↦
          let one = one_key rows some in
          let times : (2048 * (width + 1) + 2048) * (examined + 1) ≤ 4096 * (key_count rows + 1) * (examined + 1) = mul-le-mul_right (examined + 1) (omega arith) in
          let parts : (2048 * (width + 1) + 2048) * (examined + 1) ≡ 2048 * (width + 1) * (examined + 1) + 2048 * (examined + 1) = mul_parts (2048 * (width + 1)) (examined + 1) in
          omega arith
    ]
  where
    mul_parts : (a k : ℕ) → (a + 2048) * k ≡ a * k + 2048 * k
    mul_parts a k = grind arith

-- no more rows are left without one
pub few_without : (entry : ℕ) (rows : List Priced) → length (without entry rows) ≤ length rows
few_without entry [] = omega arith
few_without entry (x ∷ xs) =
    let more = few_without entry xs in
    elim (not (x.row.entry == entry)) as (λ b. length (cond b (x ∷ without entry xs) (without entry xs)) ≤ length (x ∷ xs)) [ true ↦ omega arith | false ↦ omega arith ]

-- no more keys than rows
pub most_keys : (rows : List Priced) → key_count rows ≤ length rows
most_keys [] = omega arith
most_keys (x ∷ xs) =
    let more = most_keys xs in
    elim (list_any (λ z. same_key x.row.key z.row.key) xs) as (λ b. cond b (key_count xs) (1 + key_count xs) ≤ length (x ∷ xs)) [ true ↦ omega arith | false ↦ omega arith ]
