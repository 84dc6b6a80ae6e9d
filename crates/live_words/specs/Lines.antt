-- The lines of a round, and the text of lines.
use Rattle.std.specs.Prelude.{ℕ, ℤ, List, [], ◌∷◌, ◌++◌, codes}
use Rattle.fix_write.specs.Moments.{moment_text}
use Rattle.script_text.specs.Escaping.{escape_text}

-- a member has a new connection, or lost the one that he had
abbrev pub open_line : List ℕ → List ℕ
open_line name = codes "O " ++ name

-- bytes of a member's connection
abbrev pub bytes_line : List ℕ → List ℕ → List ℕ
bytes_line name piece = ((codes "B " ++ name) ++ 32 ∷ []) ++ escape_text piece

-- the moment from now on
abbrev pub moment_line : ℤ → List ℕ
moment_line moment = codes "T " ++ moment_text moment

-- the quote of a market that leaves it without prices of a symbol
abbrev pub empty_line : List ℕ → List ℕ → List ℕ
empty_line symbol market = ((codes "Q " ++ symbol) ++ 32 ∷ market) ++ codes " - -"

-- lines as a text, each with its LF
abbrev pub text_of_lines : List (List ℕ) → List ℕ
text_of_lines [] = []
text_of_lines (line ∷ lines) = line ++ 10 ∷ text_of_lines lines
