-- How far a listing was read.
use Rattle.std.specs.Prelude.{◌≡◌, ◌≤◌, ◌<◌, ℕ, ◌+◌, ◌==◌, nat_lt, nat_le, Bool, ◌&&◌, ◌||◌, if◌then◌else◌, true, List, [], ◌∷◌, ◌++◌, length, drop, Option, Some, None}
use Rattle.std.specs.List.{AllByRecursion, flat_map}
use Rattle.venue_words.specs.declared.config.Config.{Config}
use Rattle.venue_words.specs.declared.command.Event.{Event}
use Rattle.venue_words.specs.declared.report.Report.{Report}
use Rattle.eager_meaning.specs.Step.{IsNumbered, runs}
use Rattle.listing.specs.Commands.{name_at}
use Rattle.listing.specs.Lines.{symbol_line, event_line, report_line, ended}
use Rattle.listing.specs.Listing.{Part, listing, reports_for, event_text}
use Rattle.listing_reader.specs.Fitting.{fits_event}
use Rattle.audit_core.specs.declared.part.OpenPart.{OpenPart}
use Rattle.audit_core.specs.Audited.{limit_at, tick_at, run_of, AreParts}
use Rattle.audit_core.specs.Telling.{Telling, day_text, events_text}

-- the lines of reports
abbrev pub report_lines : Config → ℕ → List Report → List ℕ
report_lines config symbol reports = flat_map (λ report. ended (report_line config symbol report)) reports

-- the part of a symbol that is read is over its journal
pub record IsOpen (config : Config) (symbol : ℕ) (part : OpenPart) : Type 0 where
  pub within : symbol < length config.symbols
  pub markets : part.book.markets ≡ length config.markets
  pub tick : part.book.tick ≡ tick_at config symbol
  pub limit : part.book.limit ≡ limit_at config symbol
  pub reports : part.book.reports ≡ (run_of config symbol part.book.journal).reports
  pub numbered : IsNumbered part.book.journal
  pub fits : AllByRecursion (λ event. fits_event config event ≡ true) part.book.journal
  pub told : part.told ≤ length part.book.reports
  pub few : part.counts.events ≤ limit_at config symbol
  pub counted : length part.book.journal ≤ part.counts.events

-- the line of the symbol, and each event with its reports
abbrev pub part_front : Config → ℕ → OpenPart → List ℕ
part_front config symbol part =
    ended (symbol_line (name_at config.symbols symbol) part.counts.events part.counts.reports)
    ++ flat_map (λ event. event_text config symbol event (reports_for event part.book.reports)) part.book.journal

-- what was read of a part, with the lines of the reports that are still to come
abbrev pub ReadsPart : Config → ℕ → Option OpenPart → List ℕ → Type 0
ReadsPart config symbol None text = text ≡ []
ReadsPart config symbol (Some part) text =
    text ++ report_lines config symbol (drop part.told part.book.reports) ≡ part_front config symbol part

-- the events of a part that were read
abbrev pub journal_in : Option OpenPart → List Event
journal_in None = []
journal_in (Some part) = part.book.journal

-- a text was read up to the part of this symbol, and this was told of it
pub record Stands (telling : Telling) (config : Config) (symbol : ℕ) (part : Option OpenPart) (text told : List ℕ) : Type 0 where
  pub parts : List Part
  pub behind : List ℕ
  pub count : length parts ≡ symbol
  pub made : AreParts config 0 parts
  pub reads : ReadsPart config symbol part behind
  pub whole : text ≡ listing config parts ++ behind
  pub tells : told ≡ day_text telling config parts ++ events_text telling config symbol [] (journal_in part)

-- all that the symbol's line counts was read
pub record IsRead (part : OpenPart) : Type 0 where
  pub events : length part.book.journal ≡ part.counts.events
  pub reports : length part.book.reports ≡ part.counts.reports
  pub told : part.told ≡ length part.book.reports

-- whether all that the symbol's line counts was read
abbrev pub is_read : OpenPart → Bool
is_read part =
    ((length part.book.journal == part.counts.events) && (length part.book.reports == part.counts.reports))
    && (part.told == part.counts.reports)

-- an event came behind those that there were, and its reports are still to come
pub record Grows (config : Config) (symbol : ℕ) (old new : OpenPart) (event : Event) : Type 0 where
  pub counts : new.counts ≡ old.counts
  pub told : new.told ≡ old.told
  pub front : part_front config symbol new ≡ part_front config symbol old
      ++ (ended (event_line config symbol event) ++ report_lines config symbol (drop new.told new.book.reports))

-- the book took the event as its next one
pub record Works (old new : OpenPart) (event : Event) : Type 0 where
  pub counts : new.counts ≡ old.counts
  pub told : new.told ≡ old.told
  pub markets : new.book.markets ≡ old.book.markets
  pub tick : new.book.tick ≡ old.book.tick
  pub limit : new.book.limit ≡ old.book.limit
  pub number : event.number ≡ length old.book.journal + 1
  pub journal : new.book.journal ≡ old.book.journal ++ event ∷ []
  pub reports : new.book.reports ≡ (runs old.book.markets old.book.tick (old.book.journal ++ event ∷ [])).reports
  pub numbered : IsNumbered new.book.journal

-- an auditor as contracts see it: the config, the symbol whose part is read or comes next, and that part once its line was read
pub record Auditing : Type 0 where
  pub config : Config
  pub symbol : ℕ
  pub part : Option OpenPart

abbrev pub OpenIf : Config → ℕ → Option OpenPart → Type 0
OpenIf config symbol None = Unit {0}
OpenIf config symbol (Some part) = IsOpen config symbol part

-- these bytes were read, and this was told of them
abbrev pub HasRead : Telling → Auditing → List ℕ → List ℕ → Type 0
HasRead telling auditing text told = Stands telling auditing.config auditing.symbol auditing.part text told

-- behind a line of a part: where all of it was read, the next one follows
abbrev pub behind_part : Config → ℕ → OpenPart → Auditing
behind_part config symbol part =
    if is_read part
    then (record { config = config; symbol = symbol + 1; part = None })
    else (record { config = config; symbol = symbol; part = Some part })

-- what is told there
abbrev pub end_text : Telling → Config → ℕ → OpenPart → List ℕ
end_text telling config symbol part = if is_read part then telling.end config symbol part.book.journal else []

-- whether the counts of the symbol's line allow the events and the reports that there are
abbrev pub is_allowed : OpenPart → Bool
is_allowed part =
    (nat_lt (length part.book.journal) part.counts.events && nat_le (length part.book.reports) part.counts.reports)
    || ((length part.book.journal == part.counts.events) && (length part.book.reports == part.counts.reports))
