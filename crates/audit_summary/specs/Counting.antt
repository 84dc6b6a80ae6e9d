-- What is counted for each of so many and for all, by pairs of one and an amount.
use Rattle.std.specs.Prelude.{◌≡◌, ◌<◌, ℕ, ◌==◌, ◌/◌, if◌then◌else◌, List, length, slice_index, sum_by, Option, Some, None}
use Rattle.audit_summary.specs.declared.totals.Counted.{Counted}

-- what pairs count for one, or for all: the sum of the amounts
abbrev pub total : Option ℕ → List (ℕ × ℕ) → ℕ
total None pairs = sum_by (λ pair. pair.1) pairs
total (Some who) pairs = sum_by (λ pair. if pair.0 == who then pair.1 else 0) pairs

-- of what both parties of a trade are told; for all members it counts once
abbrev pub once : Option ℕ → ℕ → ℕ
once None told = told / 2
once (Some who) told = told

-- a sum for each of so many: what the pairs count for it; and one for all
pub record AreTotals (many : ℕ) (pairs : List (ℕ × ℕ)) (counted : Counted) : Type 0 where
  pub many_are : length counted.each.items ≡ many
  pub each : (who : ℕ) → who < many → slice_index counted.each.items who ≡ total (Some who) pairs
  pub all : counted.all ≡ total None pairs
