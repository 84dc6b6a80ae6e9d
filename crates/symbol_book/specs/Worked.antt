-- What working an event makes of a book.
use Rattle.std.specs.Prelude.{◌≡◌, ℕ, List, Option}
use Rattle.venue_words.specs.declared.command.Event.{Event}
use Rattle.venue_words.specs.declared.report.Report.{Report}
use Rattle.venue_words.specs.declared.row.Row.{Row}
use Rattle.eager_meaning.specs.State.{State}
use Rattle.eager_meaning.specs.Step.{outcome_of}
use Rattle.market_laws.specs.Standing.{entries_after}
use Rattle.symbol_book.specs.Changes.{ids_after}
use Rattle.symbol_book.specs.Ids.{UsedId}
use Rattle.symbol_book.specs.Log.{Reports}

-- the state and the notices are the event's outcome, and the rows and ids are kept with them
pub record IsWorked (tick : ℕ) (event : Event)
    (s : State) (entered : List (Option Row)) (entries : List UsedId) (before : List Report)
    (next : State) (entered_next : List (Option Row)) (entries_next : List UsedId) (after : List Report)
    (place : ℕ) : Type 0 where
  pub state : (outcome_of tick event.number event.command s).state ≡ next
  pub reports : Reports event before 1 (outcome_of tick event.number event.command s).notices after place
  pub rows : entered_next ≡ entries_after tick s event.number event.command entered
  pub ids : entries_next ≡ ids_after tick event.command s entries
