-- What is told of the first lines of a listing.
use Rattle.std.specs.Prelude.{◌≡◌, ◌<◌, ℕ, ◌+◌, ◌⊎◌, true, List, [], ◌++◌, length}
use Rattle.std.specs.List.{AllByRecursion}
use Rattle.venue_words.specs.declared.config.Config.{Config}
use Rattle.venue_words.specs.declared.command.Event.{Event}
use Rattle.venue_words.specs.declared.report.Report.{Report}
use Rattle.eager_meaning.specs.Step.{IsNumbered}
use Rattle.listing.specs.Commands.{name_at}
use Rattle.listing.specs.Lines.{symbol_line, ended}
use Rattle.listing.specs.Listing.{Part, listing}
use Rattle.listing_reader.specs.Fitting.{fits_event}
use Rattle.audit_core.specs.Audited.{AreParts, run_of}
use Rattle.audit_core.specs.Ahead.{event_lines}
use Rattle.audit_core.specs.Differing.{AreLines, lines_text}
use Rattle.audit_core.specs.Progress.{report_lines}
use Rattle.audit_core.specs.Telling.{Begins, Output, Says, Telling, day_text, events_text}

-- with some reports' lines behind it, the text is the line of a symbol with these events and their reports behind it
pub record BeginsPart (config : Config) (symbol : ℕ) (events : List Event) (text : List ℕ) : Type 0 where
  pub within : symbol < length config.symbols
  pub numbered : IsNumbered events
  pub fits : AllByRecursion (λ event. fits_event config event ≡ true) events
  pub event_count : ℕ
  pub report_count : ℕ
  pub later : List Report
  pub whole : text ++ report_lines config symbol later
      ≡ ended (symbol_line (name_at config.symbols symbol) event_count report_count)
      ++ event_lines config symbol events (run_of config symbol events).reports

-- the text has the parts of the first symbols and a beginning of the next one, and this is told of their events
pub record IsFront (telling : Telling) (config : Config) (text told : List ℕ) : Type 0 where
  pub parts : List Part
  pub events : List Event
  pub behind : List ℕ
  pub made : AreParts config 0 parts
  pub begins : ((events ≡ []) × (behind ≡ [])) ⊎ BeginsPart config (length parts) events behind
  pub whole : text ≡ listing config parts ++ behind
  pub tells : told ≡ day_text telling config parts ++ events_text telling config (length parts) [] events

-- all was said that is told of the lines before the one of this number
pub record SaysBefore (telling : Telling) (config : Config) (text : List ℕ) (line : ℕ) (old new : Output) : Type 0 where
  pub lines : List (List ℕ)
  pub rest : List ℕ
  pub told : List ℕ
  pub clear : AreLines lines
  pub place : line ≡ length lines + 1
  pub whole : text ≡ lines_text lines ++ rest
  pub front : IsFront telling config (lines_text lines) told
  pub said : Says old new told

-- a beginning was said of what is told of some first lines
pub record SaysSome (telling : Telling) (config : Config) (text : List ℕ) (old new : Output) : Type 0 where
  pub lines : List (List ℕ)
  pub rest : List ℕ
  pub told : List ℕ
  pub clear : AreLines lines
  pub whole : text ≡ lines_text lines ++ rest
  pub front : IsFront telling config (lines_text lines) told
  pub begun : Begins old new told
