-- What the steps of a round leave as it was, and the pieces that they hand on.
use Rattle.std.specs.Prelude.{◌≡◌, ◌⊎◌, ℕ, ℤ, List, [], ◌∷◌, ◌++◌, All}
use Rattle.ports.specs.Cuts.{IsPiece}
use Rattle.ports.specs.declared.answers.Heard.{Heard}
use Rattle.ports.specs.declared.answers.Heard.TheVariants as heard
use Rattle.ports.specs.declared.answers.Naming.{Naming}
use Rattle.ports.specs.declared.answers.Naming.TheVariants as naming
use Rattle.live_edge.specs.Stories.{Story}
use Rattle.live_edge.specs.Joins.{all_put}
use Rattle.live_words.specs.Lines.{moment_line}

-- no line was brought, and none put, and no byte was put to a member
pub record Keeps (old new : Story) : Type 0 where
  pub brought : new.brought ≡ old.brought
  pub told : new.told ≡ old.told
  pub put : (m : ℕ) → all_put new.past m ≡ all_put old.past m

-- what was heard of a member is pieces
abbrev pub IsOfPieces : Heard → Type 0
IsOfPieces (heard.Pieces member pieces) = All IsPiece pieces.items
IsOfPieces _ = Unit {0}

-- what a naming hands on is pieces
abbrev pub IsNamedOfPieces : Naming → Type 0
IsNamedOfPieces (naming.Named old pieces) = All IsPiece pieces.items
IsNamedOfPieces naming.Nobody = Unit {0}

-- the first lines of a batch, and its moment, if it has one
abbrev pub IsMarked : List (List ℕ) → ℤ → List (List ℕ) → Type 0
IsMarked first moment lines = (lines ≡ first) ⊎ (lines ≡ first ++ moment_line moment ∷ [])

-- the first lines of a batch, then its moment, if it has one, and then its body
abbrev pub IsInOrder : List (List ℕ) → ℤ → List (List ℕ) → List (List ℕ) → Type 0
IsInOrder first moment body lines = (lines ≡ first ++ body) ⊎ (lines ≡ first ++ moment_line moment ∷ body)
