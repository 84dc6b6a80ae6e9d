-- A field of a message, wherever its bytes stand.
use Rattle.std.specs.Prelude.{ℕ, List}

pub record Field : Type 0 where
  pub tag : ℕ
  pub bytes : List ℕ
