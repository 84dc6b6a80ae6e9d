-- Where a text is first seen to be no good one, line by line.
use Rattle.std.specs.Prelude.{◌≡◌, ℕ, ◌+◌, ◌⊎◌, false, List, ◌++◌, length, Option, Some, IfSome}
use Rattle.std.specs.List.{AllByRecursion, flat_map}
use Rattle.script_text.specs.Lines.{has_end}
use Rattle.line_reader.specs.NextLaws.{LongFront}
use Rattle.listing.specs.Lines.{ended}

-- no line ends in any of these
abbrev pub AreLines : List (List ℕ) → Type 0
AreLines lines = AllByRecursion (λ line. has_end line ≡ false) lines

-- the text of lines
abbrev pub lines_text : List (List ℕ) → List ℕ
lines_text lines = flat_map ended lines

-- behind these bytes a line stands with which they begin no good text
pub record IsWrongLine (IsGood : List ℕ → Type 0) (before rest : List ℕ) : Type 0 where
  pub line : List ℕ
  pub behind : List ℕ
  pub clear : has_end line ≡ false
  pub whole : rest ≡ ended line ++ behind
  pub none : (more : List ℕ) → IsGood (before ++ (ended line ++ more)) → ⊥

-- behind these bytes no line ends, and all together they are no good text
pub record IsWrongEnd (IsGood : List ℕ → Type 0) (before rest : List ℕ) : Type 0 where
  pub clear : has_end rest ≡ false
  pub none : IsGood (before ++ rest) → ⊥

-- the line of this number, or the end of the text that stands in its place, is the first that is seen to be wrong: with it the
-- lines begin no good text. What is expected there is the next line of every good text that begins with the lines before
pub record DiffersAt (IsGood : List ℕ → Type 0) (text : List ℕ) (number : ℕ) (expected : Option (List ℕ)) : Type 0 where
  pub lines : List (List ℕ)
  pub rest : List ℕ
  pub clear : AreLines lines
  pub place : number ≡ length lines + 1
  pub whole : text ≡ lines_text lines ++ rest
  pub wrong : IsWrongLine IsGood (lines_text lines) rest ⊎ IsWrongEnd IsGood (lines_text lines) rest
  pub told : IfSome expected (λ line. (more : List ℕ) → IsGood (lines_text lines ++ more) → (behind : List ℕ) × (more ≡ ended line ++ behind))

-- the line of this number has more bytes than a line may have
pub record IsLongLine (text : List ℕ) (number : ℕ) : Type 0 where
  pub lines : List (List ℕ)
  pub rest : List ℕ
  pub clear : AreLines lines
  pub place : number ≡ length lines + 1
  pub whole : text ≡ lines_text lines ++ rest
  pub long : LongFront rest

-- of a text whose first line is the one behind so many: the line has the property, counted from there
abbrev pub AtLine : ℕ → Option (List ℕ) → ℕ → (List ℕ → ℕ → Type 0) → Type 0
AtLine before ahead line P = (number : ℕ) × (line ≡ before + number) × ((text : List ℕ) → ahead ≡ Some text → P text number)
