-- The listing of a venue: for each symbol its journal, and behind each event the reports that it made.
use Rattle.std.specs.Prelude.{◌≡◌, ℕ, ◌+◌, ◌==◌, List, [], ◌∷◌, ◌++◌, length, filter}
use Rattle.std.specs.List.{AllByRecursion, flat_map}
use Rattle.venue_words.specs.declared.command.Event.{Event}
use Rattle.venue_words.specs.declared.config.Config.{Config}
use Rattle.venue_words.specs.declared.report.Report.{Report}
use Rattle.eager_meaning.specs.Step.{IsNumbered, runs}
use Rattle.listing.specs.Commands.{name_at}
use Rattle.listing.specs.Lines.{symbol_line, event_line, report_line, ended}

-- ---- one symbol

-- the reports of an event, in their order
abbrev pub reports_for : Event → List Report → List Report
reports_for event reports = filter (λ report. report.event == event.number) reports

-- an event with these reports behind it
unfoldable pub event_text : Config → ℕ → Event → List Report → List ℕ
event_text config symbol event told =
    ended (event_line config symbol event) ++ flat_map (λ report. ended (report_line config symbol report)) told

-- how many events and reports there are, and then each event with its reports
unfoldable pub part_text : Config → ℕ → List Event → List Report → List ℕ
part_text config symbol journal reports =
    ended (symbol_line (name_at config.symbols symbol) (length journal) (length reports))
    ++ flat_map (λ event. event_text config symbol event (reports_for event reports)) journal

-- ---- all symbols

-- the journal of a symbol, and its reports
pub record Part : Type 0 where
  pub journal : List Event
  pub reports : List Report

-- the symbols from one on
abbrev pub listing_from : Config → ℕ → List Part → List ℕ
listing_from config symbol [] = []
listing_from config symbol (part ∷ parts) =
    part_text config symbol part.journal part.reports ++ listing_from config (symbol + 1) parts

-- the listing of a config's symbols, each with its part
abbrev pub listing : Config → List Part → List ℕ
listing config parts = listing_from config 0 parts

-- ---- in which order reports stand

-- the reports stand event by event, in the order of the journal
abbrev pub StandByEvent : List Event → List Report → Type 0
StandByEvent [] reports = reports ≡ []
StandByEvent (event ∷ events) reports =
    (told later : List Report)
    × (reports ≡ told ++ later)
    × AllByRecursion (λ report. report.event ≡ event.number) told
    × StandByEvent events later

-- a journal and its reports as a book has them: the k-th event has number k, and the reports stand event by event
pub record IsInOrder (journal : List Event) (reports : List Report) : Type 0 where
  pub numbered : IsNumbered journal
  pub by_event : StandByEvent journal reports

-- so stand those that the market's rules make
abbrev pub RunsAreInOrder : Type 0
RunsAreInOrder =
    (markets tick : ℕ) (journal : List Event) → IsNumbered journal → IsInOrder journal (runs markets tick journal).reports
