-- What a load run makes: the load script is played, and one line sums it up.
use Rattle.std.specs.Prelude.{◌≡◌, ◌≤◌, ◌+◌, ℕ, List, [], Option, Some, None}
use Rattle.std.specs.Io.KnownBytes.{Appends}
use Rattle.io_edge.specs.Grows.{AppendsPrefix}
use Rattle.venue_words.specs.Floors.{SymbolView}
use Rattle.script_text.specs.Load.{load_lines}
use Rattle.replay_core.specs.Plan.{most_load}
use Rattle.replay_core.specs.Play.{Place, Played, play, onto, start}
use Rattle.replay_core.specs.Playing.{Playing}
use Rattle.replay_core.specs.Reading.{IsAtPlace}
use Rattle.replay_core.specs.Summary.{summary_of, summary_text}
use Rattle.replay_core.specs.Telling.{Seen}
use Rattle.replay_core.specs.declared.phase.Phase.{Phase}
use Rattle.replay_core.specs.declared.status.Status.{Status}
use Rattle.replay_core.specs.declared.status.Status.TheVariants.{Done, WriteFault, NoMemory}

-- what the load script makes
unfoldable pub loaded : ℕ → ℕ → Played
loaded orders quotes = play start (load_lines orders quotes) []

abbrev pub line_behind : Option Playing → List ℕ
line_behind None = []
line_behind (Some playing) = summary_text (summary_of playing)

-- the one line of a load run
abbrev pub summary : ℕ → ℕ → List ℕ
summary orders quotes = line_behind (loaded orders quotes).last

-- the load script is played to its end
abbrev pub LoadNeverFaults : Type 0
LoadNeverFaults = (orders quotes : ℕ) → orders ≤ most_load → quotes ≤ most_load → (loaded orders quotes).fault ≡ None

-- what a status of a load run says of what was told: the whole line, or a beginning of it; no other status comes
abbrev pub LoadOutcome : ℕ → ℕ → Option (List ℕ) → Option (List ℕ) → Status → Type 0
LoadOutcome orders quotes old new Done = Appends old new (summary orders quotes)
LoadOutcome orders quotes old new WriteFault = AppendsPrefix old new (summary orders quotes)
LoadOutcome orders quotes old new NoMemory = AppendsPrefix old new (summary orders quotes)
LoadOutcome orders quotes old new _ = ⊥

-- the same, and no more steps were counted than the load script's events may take
pub record Loaded (orders quotes : ℕ) (old new : Seen) (status : Status) : Type 0 where
  pub outcome : LoadOutcome orders quotes old.told new.told status
  pub steps : new.steps ≤ old.steps + (loaded orders quotes).steps

-- So many lines and bytes were worked, the phase stands behind them, and these lines are still there: all that is made is
-- some output, some steps, and what these lines make from there; and no more steps were counted than those.
pub record LoadsTo {F : Type 0} (at : F → ℕ → SymbolView) (all : Played) (rest : List (List ℕ)) (old new lines bytes : ℕ)
    (phase : Phase F) : Type 0 where
  pub place : Place
  pub there : IsAtPlace at phase place
  pub lines_are : lines ≡ place.lines
  pub bytes_are : bytes ≡ place.bytes
  pub text : List ℕ
  pub spent : ℕ
  pub counted : new ≤ old + spent
  pub goes : all ≡ onto text spent (play place rest [])
