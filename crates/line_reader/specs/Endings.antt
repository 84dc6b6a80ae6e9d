-- How a program's end is told.
use Rattle.std.specs.Prelude.{◌≡◌, ℕ, Bool, List, [], ◌∷◌, ◌++◌, Option, ◌⊎◌, codes, if◌then◌else◌}
use Rattle.std.specs.Io.KnownBytes.{Appends}
use Rattle.io_edge.specs.Grows.{AppendsPrefix}
use Rattle.venue_words.specs.Causes.{Rose}

-- the line that is put: the program's name and the text, or nothing where there is no text
abbrev pub line_of : List ℕ → List ℕ → List ℕ
line_of program [] = []
line_of program (b ∷ text) = program ++ (codes ": " ++ (b ∷ text ++ 10 ∷ []))

-- what a status is once its text could not be put
abbrev pub after_failure : {S : Type 0} → Bool → S → S → S
after_failure yields status fault = if yields then fault else status

-- what a status is after its line was put: itself, where all of the line was put; where the put failed, a beginning of the
-- line was put, and it is what a failure makes of it
abbrev pub Told : {S : Type 0} → List ℕ → S → S → S → Option (List ℕ) → Option (List ℕ) → ℕ → ℕ → Type 0
Told line failed status result old new before now =
    ((result ≡ status) × Appends old new line) ⊎ ((result ≡ failed) × AppendsPrefix old new line × Rose before now)
