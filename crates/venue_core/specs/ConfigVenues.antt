-- The venue of a config, and the floors of a config.
use Rattle.std.specs.Prelude.{◌≡◌, ℕ, ◌<◌, List, length, slice_get, slice_index, Option, Some, None}
use Rattle.venue_words.specs.Floors.{FloorMark, SymbolView, IsSetUpFor, setup_of}
use Rattle.venue_words.specs.declared.config.Config.{Config}
use Rattle.venue_words.specs.declared.command.Event.{Event}
use Rattle.venue_words.specs.declared.report.Report.{Report}
use Rattle.eager_meaning.specs.State.{State, initial}
use Rattle.turn_gate.specs.Seats.{SeatState}
use Rattle.symbol_book.specs.Book.{BookView}
use Rattle.symbol_book.specs.Setting.{setting_of, book_setting, run_at, reports_at, steps_at}
use Rattle.venue_core.specs.Marks.{plain_mark, setting_in}
use Rattle.venue_core.specs.Runs.{run_in, most_steps}
use Rattle.venue_core.specs.Shown.{shown_by_seat, shown_of}
use Rattle.venue_core.specs.Venues.{PlainState}

-- a venue of the config: it is set up with it, and each symbol's book has the config's markets and the symbol's tick
pub record IsVenueOf (config : Config) (mark : FloorMark) : Type 0 where
  pub setup : mark.setup ≡ setup_of config
  pub settings : (symbol : ℕ) → symbol < length config.symbols
      → setting_in mark symbol ≡ setting_of (length config.markets) (slice_index config.ticks symbol)

-- a floor of the config, of whatever kind: it is set up for it, and of each symbol's journal it shows the reports that the
-- market's rules make, and says the most steps of an event
pub record IsFloorOf
    (reports_in : FloorMark → ℕ → List Event → List Report)
    (step_limit : FloorMark → ℕ → List Event → Event → Option ℕ)
    (config : Config) (mark : FloorMark) : Type 0 where
  pub setup : IsSetUpFor config mark.setup
  pub reports : (symbol : ℕ) (journal : List Event) → symbol < length config.symbols
      → reports_in mark symbol journal ≡ (run_in config symbol journal).reports
  pub steps : (symbol : ℕ) (journal : List Event) (event : Event) → symbol < length config.symbols
      → step_limit mark symbol journal event ≡ Some (most_steps config symbol journal event)

-- ---- what floors over the books of `symbol_book` are seen as

abbrev pub book_reports_in : FloorMark → ℕ → List Event → List Report
book_reports_in mark symbol = reports_at (setting_in mark symbol)

abbrev pub book_step_limit : FloorMark → ℕ → List Event → Event → Option ℕ
book_step_limit mark symbol journal event = Some (steps_at (setting_in mark symbol) journal event)

-- at one symbol, through a seat of many threads
abbrev pub book_seen : List SeatState → ℕ → SymbolView
book_seen seats symbol = shown_by_seat reports_at (slice_get seats symbol)

-- on one thread: the mark, and at a symbol what is shown and the state of the book
abbrev pub plain_book_mark : PlainState BookView → FloorMark
plain_book_mark venue = plain_mark (λ book. book.limit) book_setting venue

abbrev pub plain_book_view : PlainState BookView → ℕ → SymbolView
plain_book_view venue symbol = shown_of (λ book. book.journal) book_setting reports_at venue symbol

abbrev pub state_of_book : Option BookView → State
state_of_book None = initial 0
state_of_book (Some book) = (run_at (book_setting book) book.journal).state

abbrev pub plain_book_state : PlainState BookView → ℕ → State
plain_book_state venue symbol = state_of_book (slice_get venue.books symbol)
