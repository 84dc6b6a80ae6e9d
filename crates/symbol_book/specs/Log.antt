-- What an event reports: notices, numbered by their place.
use Rattle.std.specs.Prelude.{◌≡◌, ℕ, List, ◌++◌}
use Rattle.venue_words.specs.declared.command.Event.{Event}
use Rattle.venue_words.specs.declared.report.Report.{Report}
use Rattle.eager_meaning.specs.declared.notice.Notice.{Notice}
use Rattle.eager_meaning.specs.Step.{reports_from}

-- the reports, and for how many more there are places
pub record Log : Type 0 where
  pub list : List Report
  pub places : ℕ

-- the notices were reported from one place on up to another: whatever is reported next continues them
pub record Reports (event : Event)
    (before : List Report) (place : ℕ) (notices : List Notice) (after : List Report) (next : ℕ) : Type 0 where
  pub all : (rest : List Notice) → after ++ reports_from next event rest ≡ before ++ reports_from place event (notices ++ rest)
