-- What is told of a day's events beside their audit.
use Rattle.std.specs.Prelude.{◌≡◌, ◌<◌, ◌≤◌, ℕ, ◌+◌, ◌==◌, true, List, [], ◌∷◌, ◌++◌, length, filter, Option, Result, Err}
use Rattle.std.specs.List.{AllByRecursion}
use Rattle.venue_words.specs.Causes.{Rose}
use Rattle.venue_words.specs.declared.config.Config.{Config}
use Rattle.venue_words.specs.declared.command.Event.{Event}
use Rattle.venue_words.specs.declared.report.Report.{Report}
use Rattle.io_edge.specs.Grows.{AppendsPrefix}
use Rattle.eager_meaning.specs.Step.{IsNumbered}
use Rattle.listing.specs.Handing.{Hands, HandsOn}
use Rattle.listing.specs.Listing.{Part, listing}
use Rattle.listing_reader.specs.Fitting.{fits_event}
use Rattle.symbol_book.specs.Book.{BookView}
use Rattle.audit_core.specs.declared.watch.WatchFault.{WatchFault}
use Rattle.audit_core.specs.declared.watch.WatchFault.TheVariants.{WriteFault}
use Rattle.audit_core.specs.Audited.{AreParts, limit_at, run_of, tick_at}

-- the texts that are told: of the last event of a symbol's journal, and of the whole journal at the symbol's end
pub record Telling : Type 0 where
  pub event : Config → ℕ → List Event → List ℕ
  pub end : Config → ℕ → List Event → List ℕ

-- what is told of these events of a symbol, behind those before
abbrev pub events_text : Telling → Config → ℕ → List Event → List Event → List ℕ
events_text telling config symbol before [] = []
events_text telling config symbol before (event ∷ later) =
    telling.event config symbol (before ++ event ∷ []) ++ events_text telling config symbol (before ++ event ∷ []) later

-- what is told of a symbol
abbrev pub journal_text : Telling → Config → ℕ → List Event → List ℕ
journal_text telling config symbol journal = events_text telling config symbol [] journal ++ telling.end config symbol journal

-- what is told of the symbols from one on
abbrev pub day_text_from : Telling → Config → ℕ → List Part → List ℕ
day_text_from telling config symbol [] = []
day_text_from telling config symbol (part ∷ parts) =
    journal_text telling config symbol part.journal ++ day_text_from telling config (symbol + 1) parts

-- what is told of a day
abbrev pub day_text : Telling → Config → List Part → List ℕ
day_text telling config parts = day_text_from telling config 0 parts

-- ---- where it goes

-- what a sink was told, and what is held to be told next
pub record Output : Type 0 where
  pub told : Option (List ℕ)
  pub held : List ℕ

-- this text was told or is held, behind what there was
abbrev pub Says : Output → Output → List ℕ → Type 0
Says old new text = Hands old.told new.told old.held new.held text

-- at `Err` a beginning of it was told
abbrev pub SaysOn : {T E : Type 0} → Output → Output → List ℕ → Result T E → Type 0
SaysOn old new text result = HandsOn old.told new.told old.held new.held text result

-- a beginning of this text was told, behind what there was
abbrev pub Begins : Output → Output → List ℕ → Type 0
Begins old new text = AppendsPrefix old.told new.told (old.held ++ text)

-- the count of failed puts never falls, and a write fault is answered only where it rose
pub record HasPutCause {T : Type 0} (before now : ℕ) (result : Result T WatchFault) : Type 0 where
  pub later : before ≤ now
  pub cause : result ≡ Err WriteFault → Rose before now

-- ---- of which book

-- the book of a symbol's journal
pub record IsBookOf (config : Config) (symbol : ℕ) (book : BookView) : Type 0 where
  pub within : symbol < length config.symbols
  pub markets : book.markets ≡ length config.markets
  pub tick : book.tick ≡ tick_at config symbol
  pub reports : book.reports ≡ (run_of config symbol book.journal).reports
  pub numbered : IsNumbered book.journal
  pub few : length book.journal ≤ limit_at config symbol
  pub fits : AllByRecursion (λ event. fits_event config event ≡ true) book.journal

-- the book worked one more event than were heard of
pub record IsNext (Heard : Config → ℕ → List Event → Type 0) (config : Config) (symbol : ℕ) (book : BookView) : Type 0 where
  pub of : IsBookOf config symbol book
  pub before : List Event
  pub event : Event
  pub journal : book.journal ≡ before ++ event ∷ []
  pub heard : Heard config symbol before

-- the reports that the last event of a symbol's journal made
abbrev pub reports_of_last : Config → ℕ → List Event → List Report
reports_of_last config symbol journal = filter (λ report. report.event == length journal) (run_of config symbol journal).reports

-- ---- of a listing

-- the text lists journals of all symbols of a config, and this is told of them
pub record Lists (telling : Telling) (config : Config) (text told : List ℕ) : Type 0 where
  pub parts : List Part
  pub each : length parts ≡ length config.symbols
  pub made : AreParts config 0 parts
  pub spelled : text ≡ listing config parts
  pub tells : told ≡ day_text telling config parts

-- the text lists such journals, and all was said that is told of them
pub record ListsAndSays (telling : Telling) (config : Config) (text : List ℕ) (old new : Output) : Type 0 where
  pub told : List ℕ
  pub lists : Lists telling config text told
  pub said : Says old new told
