-- Room that is made ahead for matching.
use Rattle.std.specs.Prelude.{◌≡◌, ℕ, ◌+◌, ◌≤◌, [], vec_len}
use Rattle.std.specs.Vec.{vec_capacity}
use Rattle.match_core.specs.declared.scratch.Scratch.{Scratch}

-- nothing is set aside
pub record IsClear (scratch : Scratch) : Type 0 where
  pub aside : scratch.aside.items ≡ []
  pub tried : scratch.tried.items ≡ []

-- room for the trades of a book of so many rows, and to set that many aside
pub record HasRoom (rows : ℕ) (scratch : Scratch) : Type 0 where
  pub fills : vec_len scratch.fills + rows ≤ vec_capacity scratch.fills
  pub aside : rows ≤ vec_capacity scratch.aside
  pub tried : rows ≤ vec_capacity scratch.tried

-- the second has as many places as the first
pub record IsAsRoomy (old new : Scratch) : Type 0 where
  pub fills : vec_capacity new.fills ≡ vec_capacity old.fills
  pub aside : vec_capacity new.aside ≡ vec_capacity old.aside
  pub tried : vec_capacity new.tried ≡ vec_capacity old.tried

-- no trades, and room to match a book of so many rows
pub record IsReady (rows : ℕ) (scratch : Scratch) : Type 0 where
  pub fills : scratch.fills.items ≡ []
  pub room : HasRoom rows scratch
