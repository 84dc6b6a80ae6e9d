-- The copy of the event is worked as the event.
use Rattle.std.proofs.Common.{◌≡◌, ◌≤◌, ◌<◌, ℕ, [], ◌∷◌, ◌++◌, ◌∙◌, drop, length, ap, subst, arith}
use Rattle.std.proofs.lemmas.List.{length-append}
use Rattle.venue_words.specs.declared.command.Event.{Event}
use Rattle.listing_reader.specs.declared.lines.Counts.{Counts}
use Rattle.audit_core.specs.declared.part.OpenPart.{OpenPart}
use Rattle.audit_core.specs.Progress.{Works}
use Rattle.audit_core.proofs.Hearing.{made_last}
use Rattle.audit_core.proofs.Working.{opens_more, takes_event}
use Rattle.audit_core.proofs.part.OpenPart.work_again.Goals as goal

counted : (old new : OpenPart) (event : Event) → Works old new event → length old.book.journal < old.counts.events → length new.book.journal ≤ new.counts.events
counted old new event works more =
    omega (arith, ap length works.journal, length-append old.book.journal (event ∷ []), ap (λ (c : Counts). c.events) works.counts, more)

pub apply-requires-clause-takes : goal.apply-requires-clause-takes
apply-requires-clause-takes g c =
    rw (c.in_ok-copy.ensures, c.requires.open.markets) (takes_event c.args.config.now c.args.event.now c.requires.fits)

pub returns-clause-works : goal.returns-clause-works
returns-clause-works g c =
    subst (λ (event : Event). Works c.args.self.now c.apply.new.self event) c.in_ok-copy.ensures (c.in_ok-is_applied.ensures.works c.if-prove.false)

pub returns-clause-open : goal.returns-clause-open
returns-clause-open g c =
    let works = subst (λ (event : Event). Works c.args.self.now c.apply.new.self event) c.in_ok-copy.ensures (c.in_ok-is_applied.ensures.works c.if-prove.false) in
    opens_more c.args.config.now c.args.symbol c.args.self.now c.apply.new.self c.args.event.now c.requires.open c.requires.fits c.requires.told works
    (counted c.args.self.now c.apply.new.self c.args.event.now works c.requires.more)

pub returns-clause-made : goal.returns-clause-made
returns-clause-made g c =
    let works = subst (λ (event : Event). Works c.args.self.now c.apply.new.self event) c.in_ok-copy.ensures (c.in_ok-is_applied.ensures.works c.if-prove.false) in
    ap (λ (n : ℕ). drop n c.apply.new.self.book.reports) works.told
    ∙ made_last c.runs_are_in_order.ensures c.args.config.now c.args.symbol c.args.self.now c.apply.new.self c.args.event.now c.requires.open c.requires.told works
