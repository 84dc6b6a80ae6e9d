-- The greater of values, in any order.
use Rattle.std.proofs.Common.{◌≡◌, ℕ, Option, Some, None, refl, ap, arith}
use Rattle.peg_groups.specs.BestValue.{higher}

pub higher-none : (v : Option ℕ) → higher v None ≡ v
higher-none None = refl
higher-none (Some n) = refl

pub higher-assoc : (u v w : Option ℕ) → higher (higher u v) w ≡ higher u (higher v w)
higher-assoc None v w = refl
higher-assoc (Some a) None w = refl
higher-assoc (Some a) (Some b) None = refl
higher-assoc (Some a) (Some b) (Some c) = ap Some (omega arith)

pub higher-swap : (u v w : Option ℕ) → higher u (higher v w) ≡ higher v (higher u w)
higher-swap None v w = refl
higher-swap (Some a) None w = refl
higher-swap (Some a) (Some b) None = ap Some (omega arith)
higher-swap (Some a) (Some b) (Some c) = ap Some (omega arith)
