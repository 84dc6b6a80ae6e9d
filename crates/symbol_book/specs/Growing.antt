-- The reports of a journal begin with those of each journal that it begins with.
use Rattle.std.proofs.Common.{ℕ, List, [], ◌∷◌, ◌++◌, ap, sym, ◌∙◌, append_assoc}
use Rattle.std.specs.Prelude.{fold}
use Rattle.std.proofs.lemmas.List.{append-nil}
use Rattle.std.proofs.lemmas.List.Sums.{fold-append}
use Rattle.venue_words.specs.declared.command.Event.{Event}
use Rattle.venue_words.specs.declared.report.Report.{Report}
use Rattle.venue_words.specs.Journals.{StartsWith}
use Rattle.eager_meaning.specs.Step.{Run, runs, step, outcome_of, reports_from}
use Rattle.symbol_book.specs.Setting.{markets_in, tick_in, reports_at}

-- the reports of more events
more_reports : (tick : ℕ) (run : Run) (events : List Event) → StartsWith (fold (step tick) run events).reports run.reports
unfolding step
more_reports tick run [] = ([], sym (append-nil run.reports))
more_reports tick run (event ∷ events) =
    let later = more_reports tick (step tick run event) events in
    let first : List Report = reports_from 1 event (outcome_of tick event.number event.command run.state).notices in
    (first ++ later.0, later.1 ∙ append_assoc run.reports first later.0)

pub reports_grow : (setting : ℕ) (before after : List Event)
    → StartsWith (reports_at setting (before ++ after)) (reports_at setting before)
unfolding runs
reports_grow setting before after =
    let later = more_reports (tick_in setting) (runs (markets_in setting) (tick_in setting) before) after in
    (later.0, ap (λ (r : Run). r.reports) (fold-append (step (tick_in setting)) _ before after) ∙ later.1)
