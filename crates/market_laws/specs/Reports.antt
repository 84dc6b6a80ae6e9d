-- How many reports there are.
use Rattle.std.specs.Prelude.{ℕ, ◌+◌, ◌*◌, ◌≤◌, List, length}
use Rattle.venue_words.specs.declared.command.Event.{Event}
use Rattle.eager_meaning.specs.Step.{Run, IsNumbered, runs}

-- the reports, and two more for each resting row, are at most four for each event
abbrev pub TellsAtMost : ℕ → Run → Type 0
TellsAtMost events run = length run.reports + 2 * (length run.state.buys + length run.state.sells) ≤ 4 * events

-- so after every history whose events are numbered
abbrev pub ReportsAreFew : Type 0
ReportsAreFew =
    (markets tick : ℕ) (history : List Event) → IsNumbered history → TellsAtMost (length history) (runs markets tick history)
