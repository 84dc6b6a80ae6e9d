-- What a machine makes of lines, one after another.
use Rattle.std.specs.Prelude.{◌≡◌, ℕ, ◌+◌, Bool, true, false, List, [], ◌∷◌, ◌++◌, length, Option, None, Some}
use Rattle.live_core.specs.declared.machine.Resumed.{Resumed}
use Rattle.live_core.specs.declared.machine.Resumed.TheVariants.{Whole, Refused}

-- what a line yields after those that were taken before it; nothing where it is refused
abbrev pub Yields : Type 0
Yields = List (List ℕ) → List ℕ → Option (List ℕ)

-- A line was taken exactly where it yields something, and that was added.
abbrev pub Answers : (List (List ℕ) → Type 0) → Option (List ℕ) → List (List ℕ) → List ℕ → List ℕ → List ℕ → Bool → Type 0
Answers has_taken (Some text) past line before after true = (after ≡ before ++ text) × has_taken (past ++ line ∷ [])
Answers has_taken None past line before after false = (after ≡ before) × has_taken past
Answers has_taken (Some text) past line before after false = ⊥
Answers has_taken None past line before after true = ⊥

abbrev pub keeping : Option (List ℕ) → List ℕ → List (List ℕ) → List (List ℕ) → List (List ℕ)
keeping None line refused taken = refused
keeping (Some text) line refused taken = line ∷ taken

-- those of some lines that are taken, after others
abbrev pub kept : Yields → List (List ℕ) → List (List ℕ) → List (List ℕ)
kept yields past [] = []
kept yields past (line ∷ lines) = keeping (yields past line) line (kept yields past lines) (kept yields (past ++ line ∷ []) lines)

abbrev pub telling : Option (List ℕ) → List ℕ → List ℕ → List ℕ
telling None refused taken = refused
telling (Some text) refused taken = text ++ taken

-- what they yield, one after another
abbrev pub output : Yields → List (List ℕ) → List (List ℕ) → List ℕ
output yields past [] = []
output yields past (line ∷ lines) = telling (yields past line) (output yields past lines) (output yields (past ++ line ∷ []) lines)

-- a beginning of a text was added
abbrev pub IsBeginning : List ℕ → List ℕ → List ℕ → Type 0
IsBeginning old new text = (part : List ℕ) × (rest : List ℕ) × (new ≡ old ++ part) × (part ++ rest ≡ text)

-- the first of some lines
abbrev pub IsFrontOf : List (List ℕ) → List (List ℕ) → Type 0
IsFrontOf front lines = (more : List (List ℕ)) × (front ++ more ≡ lines)

-- Not all of some lines are taken after others.
abbrev pub AreNotTaken : Yields → List (List ℕ) → List (List ℕ) → Type 0
AreNotTaken yields past lines = kept yields past lines ≡ lines → ⊥

-- Each line of a journal was taken, or one is refused after those before it.
abbrev pub IsResumed : Yields → (List (List ℕ) → Type 0) → List (List ℕ) → Resumed → Type 0
IsResumed yields has_taken lines Whole = has_taken lines × (kept yields [] lines ≡ lines)
IsResumed yields has_taken lines (Refused number) = (before : List (List ℕ)) × (line : List ℕ) × (after : List (List ℕ)) × (lines ≡ before ++ line ∷ after)
    × (number ≡ length before + 1) × (kept yields [] before ≡ before) × (yields before line ≡ None)
