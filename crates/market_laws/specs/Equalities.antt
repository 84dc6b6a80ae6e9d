-- What tests that answer yes, and values that are held, say is the same.
use Rattle.std.proofs.Common.{◌≡◌, ℕ, true, Some}
use Rattle.std.specs.Prelude.{◌==◌}
use Rattle.std.proofs.lemmas.Bool.Decides.{Decides-eqb}

pub some_is : {A : Type 0} (x y : A) → Some x ≡ Some y → x ≡ y
some_is x y e = cc

pub same_number : (a b : ℕ) → (a == b) ≡ true → a ≡ b
same_number a b e = (Decides-eqb a b).0 e
