use Rattle.std.proofs.Common.{◌≡◌, Some, sym, ◌∙◌, subst}
use Rattle.venue_words.specs.declared.command.Event.{Event}
use Rattle.audit_tables.specs.Quotes.{markets_after}
use Rattle.audit_tables.proofs.quotes.note_last.Goals as goal

pub note_quote-requires : goal.note_quote-requires
note_quote-requires c = c.requires c.in-Some.event.now (sym c.in-Some.ensures.value)

pub returns-in-Some : goal.returns-in-Some
returns-in-Some c = λ event is.
    let both : Some c.in-Some.event.now ≡ Some event = c.in-Some.ensures.value ∙ is in
    let same : c.in-Some.event.now ≡ event = cc in
    subst (λ (e : Event). c.note_quote.new.markets ≡ markets_after c.args.markets.now e.command) same c.note_quote.ensures
