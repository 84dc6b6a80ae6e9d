-- What a file says that holds a config: a header alone, with a limit on its bytes.
use Rattle.std.specs.Prelude.{◌≡◌, ℕ, ◌+◌, List, [], ◌∷◌, length, Result, Ok, Err, if◌then◌else◌, ⊤}
use Rattle.venue_words.specs.declared.config.Config.{Config}
use Rattle.script_text.specs.Config.{unended, unwanted}
use Rattle.script_text.specs.Header.{Step, header_line, blank}
use Rattle.script_text.specs.Lines.{cut}
use Rattle.script_text.specs.declared.header.Header.{Header}
use Rattle.script_text.specs.declared.fault.LineFault.{LineFault}
use Rattle.script_text.specs.declared.fault.LineFault.TheVariants as fault
use Rattle.line_reader.specs.Over.{weighed}
use Rattle.line_reader.specs.declared.config_file.ConfigFile.{ConfigFile}
use Rattle.line_reader.specs.declared.config_file.ConfigFault.{ConfigFault}
use Rattle.line_reader.specs.declared.config_file.ConfigFault.TheVariants.{Bad, Limit, ReadFault, NoMemory}

-- a config with the number of its bytes, or the first line that is refused
abbrev pub Answer : Type 0
Answer = Result (Config × ℕ) LineFault

-- nothing stands behind a header of n lines
abbrev pub whole_of : ℕ → ℕ → Config → List (List ℕ) → List ℕ → Answer
whole_of n bytes config [] [] = Ok (config, bytes)
whole_of n bytes config [] (b ∷ rest) = Err (unended (n + 1) (b ∷ rest))
whole_of n bytes config (line ∷ lines) rest = Err (unwanted (n + 1) line)

abbrev pub on_line : ℕ → ℕ → Step → List (List ℕ) → List ℕ → (Header → Answer) → Answer
on_line n bytes (Ok x) lines rest next = if x.0 then whole_of n bytes x.1.config lines rest else next x.1
on_line n bytes (Err fault) lines rest next = Err fault

-- the lines behind n lines of a header
unfoldable pub header_of : ℕ → ℕ → ℕ → Header → List (List ℕ) → List ℕ → Answer
header_of most n bytes header [] rest = Err (unended (n + 1) rest)
header_of most n bytes header (line ∷ lines) rest =
    on_line (n + 1) (bytes + length line + 1) (weighed most (n + 1) (bytes + length line + 1) (header_line (n + 1) header line)) lines rest
    (λ header. header_of most (n + 1) (bytes + length line + 1) header lines rest)

unfoldable pub header_text : ℕ → ℕ → ℕ → Header → List ℕ → Answer
header_text most n bytes header text = header_of most n bytes header (cut text).lines (cut text).rest

unfoldable pub behind_text : ℕ → ℕ → Config → List ℕ → Answer
behind_text n bytes config text = whole_of n bytes config (cut text).lines (cut text).rest

-- the config that a text of at most so many bytes says
abbrev pub config_file : ℕ → List ℕ → Answer
config_file most text = header_text most 0 0 blank text

abbrev pub fault_of : LineFault → ConfigFault
fault_of (fault.Bad line cause) = Bad line cause
fault_of (fault.Limit line which) = Limit line which
fault_of fault.NoMemory = NoMemory

-- the fault is the one that is meant, where it is none of the outside
abbrev pub IsMeant : Answer → ConfigFault → Type 0
IsMeant meant (Bad line cause) = meant ≡ Err (fault.Bad line cause)
IsMeant meant (Limit line which) = meant ≡ Err (fault.Limit line which)
IsMeant meant ReadFault = ⊤
IsMeant meant NoMemory = ⊤

-- the answer is the one that is meant, where it is none of the outside
abbrev pub MeetsConfig : Answer → Result ConfigFile ConfigFault → Type 0
MeetsConfig meant (Ok file) = meant ≡ Ok (file.config, file.bytes)
MeetsConfig meant (Err fault) = IsMeant meant fault
