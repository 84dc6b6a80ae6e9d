-- The moments that a clock has given.
use Rattle.std.specs.Prelude.{◌≡◌, ◌++◌, ◌∷◌, ◌-◌, [], ℕ, ℤ, pos, zero, suc, List, Option, Some, None, length, min, slice_index_or}

-- a clock that tells now has told before, and gave this moment
abbrev pub GaveMoment : ℤ → Option (List ℤ) → Option (List ℤ) → Type 0
GaveMoment moment old None = Unit {0}
GaveMoment moment None (Some new) = ⊥
GaveMoment moment (Some old) (Some new) = new ≡ old ++ moment ∷ []

-- the moment at this place, the last one behind them all, and 0 where there is none
abbrev pub moment_at : List ℤ → ℕ → ℤ
moment_at moments k = slice_index_or moments (min k (length moments - 1)) (pos 0)

-- so many moments, the last one again and again
abbrev pub first_moments : List ℤ → ℕ → List ℤ
first_moments moments zero = []
first_moments moments (suc k) = first_moments moments k ++ moment_at moments k ∷ []
