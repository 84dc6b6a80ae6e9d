-- The reports that the market's rules make stand event by event.
use Rattle.std.proofs.Common.{◌≡◌, ℕ, ◌+◌, List, [], ◌∷◌, ◌++◌, refl, sym, ◌∙◌, subst, append_assoc, append-nil}
use Rattle.std.specs.Prelude.{fold}
use Rattle.std.specs.List.{AllByRecursion}
use Rattle.venue_words.specs.declared.command.Event.{Event}
use Rattle.venue_words.specs.declared.report.Report.{Report}
use Rattle.eager_meaning.specs.declared.notice.Notice.{Notice}
use Rattle.eager_meaning.specs.State.{initial}
use Rattle.eager_meaning.specs.Step.{Run, outcome_of, reports_from, step, runs}
use Rattle.listing.specs.Listing.{StandByEvent, RunsAreInOrder}

reports_of_event : (place : ℕ) (event : Event) (notices : List Notice)
    → AllByRecursion (λ report. report.event ≡ event.number) (reports_from place event notices)
unfolding reports_from
reports_of_event place event [] = tt
reports_of_event place event (notice ∷ notices) = (refl, reports_of_event (place + 1) event notices)

-- what later events add
record Adds (run after : Run) (events : List Event) : Type 0 where
  told : List Report
  grown : after.reports ≡ run.reports ++ told
  stand : StandByEvent events told

adds : (tick : ℕ) (run : Run) (events : List Event) → Adds run (fold (step tick) run events) events
unfolding step
adds tick run [] = record { told = []; grown = sym (append-nil run.reports); stand = refl }
adds tick run (event ∷ events) =
    let later = adds tick (step tick run event) events in
    let own = reports_from 1 event (outcome_of tick event.number event.command run.state).notices in record {
      told = own ++ later.told;
      grown = later.grown ∙ append_assoc run.reports own later.told;
      stand = (own, later.told, refl, reports_of_event 1 event (outcome_of tick event.number event.command run.state).notices, later.stand);
    }

pub runs_in_order : RunsAreInOrder
unfolding runs
runs_in_order markets tick journal numbered =
    let all = adds tick (record { state = initial markets; reports = [] }) journal in
    record { numbered = numbered; by_event = subst (StandByEvent journal) (sym all.grown) all.stand }
