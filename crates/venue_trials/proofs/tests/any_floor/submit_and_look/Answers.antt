-- The floor stays one of the config, and its law says whose reports it shows.
use Rattle.std.proofs.Common.{◌≡◌, List, sym, subst, ◌∙◌, IfOk}
use Rattle.venue_words.specs.Floors.{FloorMark, IsSetUpFor}
use Rattle.venue_words.specs.Journals.{reports_of}
use Rattle.venue_words.specs.declared.report.Report.{Report}
use Rattle.venue_core.specs.ConfigVenues.{IsFloorOf}
use Rattle.venue_core.specs.ConfigVenueLaws.{is_symbol, configured_alike, floor_shows_run}
use Rattle.venue_trials.proofs.tests.any_floor.submit_and_look.Goals as goal

pub submit-requires-clause-symbol : goal.submit-requires-clause-symbol
submit-requires-clause-symbol g c =
    is_symbol c.args.config.now (g.F.Floor.mark c.args.floor.now).setup c.args.symbol c.requires.floor.setup c.requires.symbol

pub submit-requires-clause-configured : goal.submit-requires-clause-configured
submit-requires-clause-configured g c =
    sym (configured_alike c.args.config.now (g.F.Floor.mark c.args.floor.now).setup c.args.command.now c.requires.floor.setup) ∙ c.requires.configured

pub reports_after-requires-clause-symbol : goal.reports_after-requires-clause-symbol
reports_after-requires-clause-symbol g c =
    let set_up = subst (λ (mark : FloorMark). IsSetUpFor c.args.config.now mark.setup) (sym c.submit.ensures.mark) c.requires.floor.setup in
    is_symbol c.args.config.now _ c.args.symbol set_up c.requires.symbol

pub returns : goal.returns
returns g c =
    let same = c.reports_after.ensures.mark ∙ c.submit.ensures.mark in
    let of_config = subst (IsFloorOf g.F.Floor.reports_in g.F.Floor.step_limit c.args.config.now) (sym same) c.requires.floor in
    let shows = floor_shows_run g.F.Floor.mark g.F.Floor.at g.F.Floor.reports_in g.F.Floor.step_limit c.args.config.now c.reports_after.new.self c.args.symbol
    g.met.F.Floor.of_journal of_config c.requires.symbol in
    subst (λ (reports : List Report). IfOk c.reports_after.result (λ look. look.reports ≡ reports_of c.args.member 0 reports)) shows c.reports_after.ensures.reports
