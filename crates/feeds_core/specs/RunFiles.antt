-- What was read of a run's files.
use Rattle.std.specs.Prelude.{◌≡◌, ◌≤◌, ℕ, true, Result, Ok, Err}
use Rattle.venue_words.specs.Conditions.{IsConfig}
use Rattle.venue_words.specs.declared.limits.TheConstants.{MAX_CONFIG_BYTES}
use Rattle.script_text.specs.declared.fault.LineFault.{LineFault}
use Rattle.script_text.specs.declared.fault.LineFault.TheVariants as fault
use Rattle.line_reader.specs.ConfigFile.{Answer, config_file}
use Rattle.line_reader.specs.declared.config_file.ConfigFile.{ConfigFile}
use Rattle.line_reader.specs.declared.config_file.ConfigFault.{ConfigFault}
use Rattle.line_reader.specs.declared.config_file.ConfigFault.TheVariants.{Bad, Limit}
use Rattle.feeds_core.specs.FeedRuns.{Texts}
use Rattle.feeds_core.specs.FeedTexts.{KeepsAll}
use Rattle.feeds_core.specs.declared.files.RunFiles.{RunFiles}

-- a config or its first refused line, of a call that read it
abbrev pub is_of : Result ConfigFile ConfigFault → Result ConfigFile LineFault → Type 0
is_of read (Ok file) = read ≡ Ok file
is_of read (Err (fault.Bad line cause)) = read ≡ Err (Bad line cause)
is_of read (Err (fault.Limit line which)) = read ≡ Err (Limit line which)
is_of read (Err fault.NoMemory) = ⊥

abbrev pub answer_of : Result ConfigFile LineFault → Answer
answer_of (Ok file) = Ok (file.config, file.bytes)
answer_of (Err fault) = Err fault

-- the bytes of a config that was read
abbrev pub already_in : Result ConfigFile LineFault → ℕ
already_in (Ok file) = file.bytes
already_in (Err fault) = 0

abbrev pub IsReady : Result ConfigFile LineFault → Type 0
IsReady (Ok file) = IsConfig file.config × (file.bytes ≤ MAX_CONFIG_BYTES)
IsReady (Err fault) = Unit {0}

-- they hold what the texts say: the config or its first refused line, and what is to be kept of the feeds
pub record Holds (texts : Texts) (files : RunFiles) : Type 0 where
  pub config : config_file MAX_CONFIG_BYTES texts.config ≡ answer_of files.config
  pub feeds : KeepsAll true (already_in files.config) texts.feeds files.feeds.items
