-- A text that stands in another, whole and in its order, with other text between its parts.
use Rattle.std.specs.Prelude.{◌≡◌, List, ◌++◌, ℕ}
use Rattle.std.specs.List.{flat_map}

-- what stands before a part of the text, and the part
pub record Piece : Type 0 where
  pub other : List ℕ
  pub own : List ℕ

pub record IsWoven (text page : List ℕ) : Type 0 where
  pub pieces : List Piece
  pub own : text ≡ flat_map (λ piece. piece.own) pieces
  pub all : page ≡ flat_map (λ piece. piece.other ++ piece.own) pieces
