use Rattle.std.proofs.Common.{◌≡◌, ◌∙◌, ap, true, false, Some}
use Rattle.venue_words.specs.declared.command.Event.{Event}
use Rattle.listing.specs.Lines.{event_line}
use Rattle.listing_reader.specs.Fitting.{fits_event}
use Rattle.listing_reader.proofs.Events.{only_event, same_bytes}
use Rattle.listing_reader.proofs.lines.read_event.Goals as goal

pub returns-then-not-fits_event-clause-only : goal.returns-then-not-fits_event-clause-only
returns-then-not-fits_event-clause-only c = λ event fits line.
    let same = only_event c.args.config.now c.args.symbol c.args.text.now c.in_ok-event.event event c.requires.config c.requires.names c.in_ok-event.ensures fits line in
    let passed : c.fits_event.result ≡ true = c.fits_event.ensures ∙ ap (fits_event c.args.config.now) same ∙ fits in
    let never : true ≡ false = rw passed at c.if-not-fits_event.true in
    absurd (cc)

pub returns-then-eq-clause-only : goal.returns-then-eq-clause-only
returns-then-eq-clause-only c = λ event fits line.
    ap (λ (e : Event). Some e) (only_event c.args.config.now c.args.symbol c.args.text.now c.in_ok-event.event event c.requires.config c.requires.names c.in_ok-event.ensures fits line)

pub returns-else-eq-clause-only : goal.returns-else-eq-clause-only
returns-else-eq-clause-only c = λ event fits line.
    let same = only_event c.args.config.now c.args.symbol c.args.text.now c.in_ok-event.event event c.requires.config c.requires.names c.in_ok-event.ensures fits line in
    let text : c.as_slice.result.now ≡ c.args.text.now = c.as_slice.ensures.value ∙ c.in_ok-line.ensures ∙ ap (event_line c.args.config.now c.args.symbol) same ∙ line in
    let never : false ≡ true = c.if-eq.ensures ∙ same_bytes c.as_slice.result.now c.args.text.now text in
    absurd (cc)
