-- What the words of a run name: a script and a journal.
use Rattle.std.specs.Prelude.{◌≡◌, ℕ, List, [], ◌∷◌, Option, Some, None, option_and_then, option_map, unwrap_or, IsSome, IsNone}
use Rattle.io_edge.specs.Files.{Files}
use Rattle.program_words.specs.Words.{remaining}
use Rattle.replay_core.specs.Causes.{bytes_named}
use Rattle.day_core.specs.declared.files.DayFiles as declared

-- the names of a script and of a journal
pub record DayFiles : Type 0 where
  pub script : List ℕ
  pub journal : List ℕ

-- the form of the words that remain
abbrev pub form_of : List (List ℕ) → Option DayFiles
form_of (script ∷ journal ∷ []) = Some (record { script = script; journal = journal })
form_of _ = None

-- what the words name, where they have the form
abbrev pub files_of : List (List ℕ) → Option DayFiles
files_of words = option_and_then form_of (remaining words)

-- the script that the words name
abbrev pub script_named : List (List ℕ) → Option (List ℕ)
script_named words = option_map (λ files. files.script) (files_of words)

-- the journal that the words name
abbrev pub journal_named : List (List ℕ) → Option (List ℕ)
journal_named words = option_map (λ files. files.journal) (files_of words)

-- the bytes of a script, where the shelf tells them; one that is not there has none
abbrev pub IsScript : Option Files → Option (List ℕ) → List ℕ → Type 0
IsScript None name bytes = Unit {0}
IsScript (Some files) name bytes = bytes ≡ unwrap_or (bytes_named (Some files) name) []

-- the shelf tells its files, and lacks the script
abbrev pub LacksScript : Option Files → Option (List ℕ) → Type 0
LacksScript None name = ⊥
LacksScript (Some files) name = IsSome name × IsNone (bytes_named (Some files) name)

-- a name that is told is this one
abbrev pub IsNamed : Option (List ℕ) → Option (List ℕ) → Type 0
IsNamed None named = Unit {0}
IsNamed (Some name) named = named ≡ Some name

-- ---- as the program holds it

abbrev pub files_in : declared.DayFiles → DayFiles
files_in files = record { script = files.script.now; journal = files.journal.now }
