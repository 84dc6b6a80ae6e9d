-- A history and those that it begins with.
use Rattle.std.specs.Prelude.{◌≡◌, ℕ, List, ◌++◌, fold}
use Rattle.venue_words.specs.declared.command.Event.{Event}
use Rattle.venue_words.specs.declared.report.Report.{Report}
use Rattle.eager_meaning.specs.Step.{Run, runs, step}

-- reports that begin with others
abbrev pub BeginWith : List Report → List Report → Type 0
BeginWith first all = (more : List Report) × (all ≡ first ++ more)

-- what later events make of a run
pub record GoesOn (tick : ℕ) (before after : Run) (later : List Event) : Type 0 where
  pub reports : BeginWith before.reports after.reports
  pub run : after ≡ fold (step tick) before later

-- for every history and every later events: the whole goes on from the history's run, and its reports begin with the
-- history's
abbrev pub HistoryGoesOn : Type 0
HistoryGoesOn =
    (markets tick : ℕ) (history later : List Event)
    → GoesOn tick (runs markets tick history) (runs markets tick (history ++ later)) later
