-- Places in a list.
use Rattle.std.proofs.Common.{◌≡◌, ℕ, zero, suc, ◌<◌, List, [], ◌∷◌, ◌++◌, length, slice_get, Some, ◌∙◌, arith, append-nil}

pub within : {A : Type 0} (xs : List A) (k : ℕ) (x : A) → slice_get xs k ≡ Some x → k < length xs
within [] k x at = absurd (cc)
within (y ∷ xs) zero x at = omega arith
within (y ∷ xs) (suc k) x at = omega (arith, within xs k x at)

-- nothing is left of a list
pub all_of : {A : Type 0} (all done rest : List A) → all ≡ done ++ rest → length rest ≡ 0 → all ≡ done
all_of all done [] is none = is ∙ append-nil done
all_of all done (x ∷ rest) is none = absurd (omega (arith, none))
