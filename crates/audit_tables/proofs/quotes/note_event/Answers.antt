use Rattle.std.proofs.Common.{◌≡◌, true, List, sym, ◌∙◌, subst}
use Rattle.std.specs.List.{AllByRecursion}
use Rattle.venue_words.specs.declared.command.Event.{Event}
use Rattle.listing_reader.specs.Fitting.{fits_event}
use Rattle.audit_tables.proofs.Quoting.{last_get, last_is_taken, more_quotes}
use Rattle.audit_tables.proofs.quotes.note_event.Goals as goal

pub note_last-requires : goal.note_last-requires
note_last-requires c = λ event is.
    let next = c.requires in
    last_is_taken c.args.config.now c.args.symbol c.journal.result.now next.before next.event event c.args.markets.now next.heard
    (subst (λ (j : List Event). AllByRecursion (λ event. fits_event c.args.config.now event ≡ true) j) (sym c.journal.ensures.list) next.of.fits)
    (c.journal.ensures.list ∙ next.journal) is

pub returns : goal.returns
returns c =
    let next = c.requires in
    let noted = c.note_last.ensures next.event (last_get c.journal.result.now next.before next.event (c.journal.ensures.list ∙ next.journal)) in
    more_quotes c.args.config.now c.args.symbol next.before c.args.book.now.journal next.event c.args.markets.now c.note_last.new.markets next.heard next.journal noted
