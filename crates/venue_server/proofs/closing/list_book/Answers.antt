-- A book's reports stand in order.
use Rattle.std.proofs.Common.{List, sym, subst}
use Rattle.listing.specs.Listing.{IsInOrder}
use Rattle.eager_meaning.specs.Step.{IsNumbered}
use Rattle.venue_words.specs.declared.command.Event.{Event}
use Rattle.venue_words.specs.declared.report.Report.{Report}
use Rattle.venue_server.proofs.closing.list_book.Goals as goal

pub write_part-requires : goal.write_part-requires
write_part-requires g c =
    let journal = c.journal.ensures.list in
    let reports = c.reports.ensures.runs in
    let order = c.runs_are_in_order.ensures _ _ c.args.book.now.journal (subst IsNumbered journal c.journal.ensures.numbered) in
    subst (λ (x : List Event × List Report). IsInOrder x.0 x.1) (λ k. (sym journal k, sym reports k)) order
