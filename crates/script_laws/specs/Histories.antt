-- The journals of a script and the commands of its lines.
use Rattle.std.specs.Prelude.{◌≡◌, ℕ, ◌+◌, ◌<◌, ℤ, List, [], ◌∷◌, length, Option, Some, None, Result, Ok, Err, Bool, true, false}
use Rattle.venue_words.specs.declared.command.Command.{Command}
use Rattle.venue_words.specs.declared.command.Event.{Event}
use Rattle.venue_words.specs.declared.config.Config.{Config}
use Rattle.venue_words.specs.Journals.{event}
use Rattle.script_text.specs.Header.{header_line, blank}
use Rattle.script_text.specs.Lines.{cut}
use Rattle.script_text.specs.declared.header.Header.{Header}
use Rattle.script_text.specs.declared.fault.LineFault.{LineFault}
use Rattle.line_work.specs.Commands.{commands, commands_of}
use Rattle.replay_core.specs.Histories.{place_behind}
use Rattle.replay_core.specs.Play.{Place, Body, played, script}
use Rattle.replay_core.specs.Playing.{Playing, before_body, journal_at}

-- commands with their moments as events of the feed 1, numbered from this number on
abbrev pub events_from : ℕ → List (ℤ × Command) → List Event
events_from n [] = []
events_from n (one ∷ others) = event n 1 one.0 one.1 ∷ events_from (n + 1) others

-- each symbol's journal is, event by event, what a feed gives to it
pub record HoldsCommands (config : Config) (playing : Playing) (given : ℕ → List (ℤ × Command)) : Type 0 where
  pub config_is : playing.feed.config ≡ config
  pub journals : (symbol : ℕ) → symbol < length config.symbols → journal_at playing.journals symbol ≡ events_from 1 (given symbol)

-- ---- any lines that were taken

-- Behind any lines that were taken of a body, of a script that goes on, ends or is refused later: the journals hold exactly
-- the commands of those lines. What was sent to members doesn't matter.
abbrev pub LinesRecordCommands : Type 0
LinesRecordCommands =
    (config : Config) (place last : Place) (lines : List (List ℕ)) (playing : Playing)
    → place.stage ≡ Body (before_body config) → place_behind place lines ≡ Some last → last.stage ≡ Body playing
    → HoldsCommands config playing (commands_of config lines)

-- The same of a whole body, by its text.
abbrev pub BodiesRecordCommands : Type 0
BodiesRecordCommands =
    (config : Config) (place : Place) (text : List ℕ) (playing : Playing)
    → place.stage ≡ Body (before_body config) → (played place text).last ≡ Some playing
    → HoldsCommands config playing (commands config text)

-- ---- a whole script

-- a header's config, and the lines behind it
abbrev pub cut_off : Header → Bool → List (List ℕ) → Option (Config × List (List ℕ)) → Option (Config × List (List ℕ))
cut_off header true lines next = Some (header.config, lines)
cut_off header false lines next = next

abbrev pub on_header : Result (Bool × Header) LineFault → List (List ℕ) → (Header → Option (Config × List (List ℕ))) → Option (Config × List (List ℕ))
on_header (Ok x) lines next = cut_off x.1 x.0 lines (next x.1)
on_header (Err fault) lines next = None

-- the config that lines say whose first is the n-th one, and the lines of the body
unfoldable pub body_lines : ℕ → Header → List (List ℕ) → Option (Config × List (List ℕ))
body_lines n header [] = None
body_lines n header (line ∷ lines) = on_header (header_line n header line) lines (λ next. body_lines (n + 1) next lines)

-- the header of a script that was played to its end says a config, and each symbol's journal is, event by event, what the lines
-- behind the header give to it
pub record RecordsCommands (text : List ℕ) (playing : Playing) : Type 0 where
  pub config : Config
  pub lines : List (List ℕ)
  pub header : body_lines 1 blank (cut text).lines ≡ Some (config, lines)
  pub holds : HoldsCommands config playing (commands_of config lines)

abbrev pub ScriptsRecordCommands : Type 0
ScriptsRecordCommands =
    (text : List ℕ) (playing : Playing) → (script text).last ≡ Some playing → RecordsCommands text playing
