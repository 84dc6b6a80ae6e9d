-- How a run ends: its status, what is told of it, and the exit.
use Rattle.std.specs.Prelude.{◌≡◌, ◌≢◌, ◌⊎◌, ℕ, List, Option, codes}
use Rattle.std.specs.Io.KnownBytes.{Appends}
use Rattle.io_edge.specs.Grows.{AppendsPrefix}
use Rattle.line_reader.specs.Endings.{line_of}
use Rattle.program_words.specs.declared.WordFault.{WordFault}
use Rattle.program_words.specs.declared.WordFault.TheVariants as word
use Rattle.serve_core.specs.Statuses.{exit_code, told_of}
use Rattle.serve_core.specs.declared.status.ServeStatus.{ServeStatus}
use Rattle.serve_core.specs.declared.status.ServeStatus.TheVariants.{Done, BadWords, NoMemory}
use Rattle.venue_words.specs.Causes.{Rose}
use Rattle.venue_words.specs.Conditions.{IsConfig}
use Rattle.venue_words.specs.declared.config.Config.{Config}
use Rattle.venue_server.specs.Listed.{Lists}

-- of words that were not read
abbrev pub status_of_words : WordFault → ServeStatus
status_of_words word.BadWords = BadWords
status_of_words word.NoMemory = NoMemory

-- the line that is put for a status
abbrev pub status_text : ServeStatus → List ℕ
status_text status = line_of (codes "pegserve") (told_of status)

-- it was put, once; or that failed, and a beginning of it was put
abbrev pub IsTold : ServeStatus → Option (List ℕ) → Option (List ℕ) → ℕ → ℕ → Type 0
IsTold status old new before now =
    Appends old new (status_text status) ⊎ (AppendsPrefix old new (status_text status) × Rose before now)

-- a run ended with its status: its exit, its text, and what was listed
pub record Ends (exit : ℕ) (out out' err err' : Option (List ℕ)) (before now : ℕ) : Type 0 where
  pub status : ServeStatus
  pub exit_is : exit ≡ exit_code status
  pub told : IsTold status err err' before now
  pub listed : ((status ≢ Done) × (out' ≡ out)) ⊎ ((config : Config) × IsConfig config × Lists config status out out')
