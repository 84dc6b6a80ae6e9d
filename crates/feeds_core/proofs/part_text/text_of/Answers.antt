-- A book's reports are those that the market's rules make of its journal with the config.
use Rattle.std.proofs.Common.{◌≡◌, ℕ, ◌++◌, List, sym, ◌∙◌, ap, subst}
use Rattle.venue_words.specs.declared.command.Event.{Event}
use Rattle.venue_words.specs.declared.report.Report.{Report}
use Rattle.eager_meaning.specs.Step.{Run, runs}
use Rattle.listing.specs.Listing.{IsInOrder, part_text}
use Rattle.venue_core.specs.Runs.{run_in}
use Rattle.feeds_core.proofs.part_text.text_of.Goals as goal

pub write_part-requires : goal.write_part-requires
write_part-requires c =
    let book = c.args.book.now in
    subst (IsInOrder c.journal.result.now)
    (sym (c.reports.ensures.runs ∙ ap (λ (j : List Event). (runs book.markets book.tick j).reports) (sym c.journal.ensures.list)))
    (c.runs_are_in_order.ensures book.markets book.tick c.journal.result.now c.journal.ensures.numbered)

pub returns-in-Ok : goal.returns-in-Ok
returns-in-Ok c =
    let book = c.args.book.now in
    let symbol = c.args.symbol in
    let config = c.args.config.now in
    let reports : c.reports.result.now ≡ (run_in config symbol book.journal).reports =
    c.reports.ensures.by_setting ∙ ap (λ (r : Run). r.reports) c.requires in
    let whole = part_text config symbol c.journal.result.now c.reports.result.now in
    c.in-Ok.ensures.text
    ∙ ap (λ (t : List ℕ). t ++ whole) c.new.ensures.items
    ∙ ap (λ (rs : List Report). part_text config symbol c.journal.result.now rs) reports
    ∙ ap (λ (j : List Event). part_text config symbol j (run_in config symbol book.journal).reports) c.journal.ensures.list
