-- Lows that rise never fall.
use Rattle.std.proofs.Common.{ℕ, ◌<◌, ◌≤◌, List, length, subst, inl, inr, arith}
use Rattle.std.proofs.lemmas.Bool.{cases_order}
use Rattle.move_history.specs.declared.kept.KeptMove.{KeptMove}
use Rattle.move_history.specs.Kept.{low_at, IsRising}

-- an earlier low is at most a later one
pub rising-le : (kept : List KeptMove) → IsRising kept → (i j : ℕ) → i ≤ j → j < length kept → low_at kept i ≤ low_at kept j
rising-le kept rising i j order within =
    elim (cases_order i j) [
      | inl same ↦ subst (λ k. low_at kept i ≤ low_at kept k) same (omega arith)
      | inr (inl less) ↦ let r : low_at kept i < low_at kept j = rising i j less within in omega arith
      | inr (inr more) ↦ absurd (omega arith)
    ]
