-- The folder that a file's name stands in.
use Rattle.std.specs.Prelude.{◌≡◌, ◌<◌, ◌==◌, ℕ, List, [], ◌∷◌, ◌++◌, length}
use Rattle.std.specs.Str.{NoCharPasses}

abbrev pub slash : ℕ
slash = 47

abbrev pub dot : ℕ
dot = 46

abbrev pub HasNoSlash : List ℕ → Type 0
HasNoSlash text = NoCharPasses (λ c. c == slash) text

pub data IsFolderOf (folder path : List ℕ) : Type 0 where
  -- a bare name: the file stands in the folder where the program runs
  current : HasNoSlash path → folder ≡ dot ∷ [] → IsFolderOf folder path
  -- a name at the root
  root : (name : List ℕ) → HasNoSlash name → path ≡ slash ∷ name → folder ≡ slash ∷ [] → IsFolderOf folder path
  -- what stands before the last slash
  before : (name : List ℕ) → HasNoSlash name → path ≡ folder ++ slash ∷ name → 0 < length folder → IsFolderOf folder path
