-- The setting of a book: its markets and its tick in one number.
use Rattle.std.specs.Prelude.{ℕ, ◌+◌, ◌*◌, ◌/◌, ◌%◌, List}
use Rattle.venue_words.specs.declared.command.Event.{Event}
use Rattle.venue_words.specs.declared.report.Report.{Report}
use Rattle.eager_meaning.specs.Step.{Run, runs}
use Rattle.eager_meaning.specs.Work.{bound}
use Rattle.symbol_book.specs.Book.{BookView}

-- sixteen times the number of markets, and the units of the tick
abbrev pub setting_of : ℕ → ℕ → ℕ
setting_of markets tick = 16 * markets + tick

abbrev pub markets_in : ℕ → ℕ
markets_in setting = setting / 16

abbrev pub tick_in : ℕ → ℕ
tick_in setting = setting % 16

-- the setting of a book
abbrev pub book_setting : BookView → ℕ
book_setting book = setting_of book.markets book.tick

-- what a journal makes at a setting: the state of the book, and all reports
abbrev pub run_at : ℕ → List Event → Run
run_at setting journal = runs (markets_in setting) (tick_in setting) journal

abbrev pub reports_at : ℕ → List Event → List Report
reports_at setting journal = (run_at setting journal).reports

-- the most steps of an event over a journal at a setting
abbrev pub steps_at : ℕ → List Event → Event → ℕ
steps_at setting journal event =
    bound (tick_in setting) (run_at setting journal).state event.number event.command
