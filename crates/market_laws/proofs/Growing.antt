-- The reports of a history begin with those of each of its beginnings.
use Rattle.std.proofs.Common.{◌≡◌, ℕ, ◌++◌, List, [], ◌∷◌, ◌∙◌, sym, ap, append_assoc}
use Rattle.std.specs.Prelude.{fold}
use Rattle.std.proofs.lemmas.List.{append-nil}
use Rattle.std.proofs.lemmas.List.Sums.{fold-append}
use Rattle.venue_words.specs.declared.command.Event.{Event}
use Rattle.eager_meaning.specs.Step.{Run, runs, step, outcome_of, reports_from}
use Rattle.market_laws.specs.Histories.{BeginWith, HistoryGoesOn}

-- the reports of more events
reports_grow : (tick : ℕ) (run : Run) (events : List Event) → BeginWith run.reports (fold (step tick) run events).reports
unfolding step
reports_grow tick run [] = ([], sym (append-nil run.reports))
reports_grow tick run (event ∷ events) =
    let told = reports_from 1 event (outcome_of tick event.number event.command run.state).notices in
    let later = reports_grow tick (step tick run event) events in
    (told ++ later.0, later.1 ∙ append_assoc run.reports told later.0)

pub runs_append : (markets tick : ℕ) (history later : List Event) → runs markets tick (history ++ later) ≡ fold (step tick) (runs markets tick history) later
unfolding runs
runs_append markets tick history later = fold-append (step tick) _ history later

pub goes_on : HistoryGoesOn
goes_on markets tick history later =
    let all = runs_append markets tick history later in
    let grown = reports_grow tick (runs markets tick history) later in
    record { reports = (grown.0, ap (λ (r : Run). r.reports) all ∙ grown.1); run = all }
