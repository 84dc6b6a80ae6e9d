use Rattle.std.proofs.Common.{◌≡◌, ◌≤◌, ◌∙◌, true, length, ap, sym, arith}
use Rattle.std.proofs.lemmas.Bool.Decides.{nat_tests}
use Rattle.audit_core.specs.declared.part.OpenPart.{OpenPart}
use Rattle.audit_core.specs.Progress.{is_allowed}
use Rattle.audit_core.proofs.Coming.{next_number, none_allowed}
use Rattle.audit_core.proofs.Working.{grows_by, opens_more, takes_event}
use Rattle.audit_core.proofs.part.OpenPart.work.Goals as goal
use Rattle.audit_core.proofs.part.OpenPart.work.Goals.{then-event-events-via-then-event-events, then-event-events-via-else-event-events+then-events-self}

pub returns-then-event-events-clause-refuses : goal.returns-then-event-events-clause-refuses
returns-then-event-events-clause-refuses g c = λ is later counts.
    let next = next_number c.args.config.now c.args.symbol c.args.self.now c.args.event later counts in
    let size = ap length c.journal-events.ensures.list in
    elim c.then-event-events.branch [
      | then-event-events-via-then-event-events w ↦ absurd (omega (arith, next.0, size))
      | then-event-events-via-else-event-events+then-events-self w ↦ absurd (omega (arith, next.1, size))
    ]

counted_of : (part : OpenPart) → is_allowed part ≡ true → length part.book.journal ≤ part.counts.events
counted_of part is = grind (arith, nat_tests, is)

pub apply-requires-clause-takes : goal.apply-requires-clause-takes
apply-requires-clause-takes g c = rw c.requires.open.markets (takes_event c.args.config.now c.args.event c.requires.fits)

pub returns-clause-open : goal.returns-clause-open
returns-clause-open g c = λ is.
    opens_more c.args.config.now c.args.symbol c.args.self.now c.apply.new.self c.args.event c.requires.open c.requires.fits c.requires.told
    (c.in_ok-apply.ensures.works c.if-not-branch.false) (counted_of c.apply.new.self (sym c.is_counted.ensures ∙ is))

pub returns-clause-works : goal.returns-clause-works
returns-clause-works g c = λ is. c.in_ok-apply.ensures.works c.if-not-branch.false

pub returns-clause-grows : goal.returns-clause-grows
returns-clause-grows g c = λ is.
    grows_by c.runs_are_in_order.ensures c.args.config.now c.args.symbol c.args.self.now c.apply.new.self c.args.event c.requires.open c.requires.told
    (c.in_ok-apply.ensures.works c.if-not-branch.false)

pub returns-clause-refuses : goal.returns-clause-refuses
returns-clause-refuses g c = λ refused later counts.
    none_allowed c.args.config.now c.args.symbol c.args.self.now c.apply.new.self c.args.event later c.requires.open (c.in_ok-apply.ensures.works c.if-not-branch.false)
    (sym c.is_counted.ensures ∙ refused) counts
