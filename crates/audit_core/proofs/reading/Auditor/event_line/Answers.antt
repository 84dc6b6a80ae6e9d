use Rattle.std.proofs.Common.{◌≡◌, ◌-◌, ◌∷◌, ◌++◌, ◌∙◌, IsTrue, Some, None, Err, length, drop, refl, sym, ap, subst, arith}
use Rattle.std.proofs.lemmas.List.{length-drop, take_all}
use Rattle.listing.proofs.Handed.{at_err, rose_on}
use Rattle.venue_words.specs.declared.command.Event.{Event}
use Rattle.audit_core.specs.declared.watch.WatchFault.{WatchFault}
use Rattle.audit_core.specs.declared.watch.WatchFault.TheVariants.{WriteFault}
use Rattle.audit_core.specs.Ahead.{CountsAre, at}
use Rattle.audit_core.specs.Progress.{behind_part, end_text}
use Rattle.audit_core.proofs.Hearing.{is_next, made_last}
use Rattle.audit_core.proofs.Saying.{begins_first, begins_second, opens_of, opens_there, says_both, stops_before, stops_behind}
use Rattle.audit_core.proofs.Taking.{some_is, event_takes, event_refuses}
use Rattle.audit_core.proofs.reading.Auditor.event_line.Goals as goal

pub returns-in-Err-clause-sees : goal.returns-in-Err-clause-sees
returns-in-Err-clause-sees g c =
    let out = g.W.Watch.output c.args.watch.now in
    stops_before g.W.Watch.tells _ c.args.text.now out out c.requires.open refl

pub returns-in_default-clause-sees : goal.returns-in_default-clause-sees
returns-in_default-clause-sees g c = (
  event_refuses (at c.args.config.now c.args.self.now) c.args.part c.args.text.now
      (record { in_order = c.runs_are_in_order.ensures; names = c.requires.at.lines; opened = c.requires.open; told = c.requires.told; clear = c.requires.clear })
      (λ event later fits line counts.
      let found : None ≡ Some event = sym c.in_default.is ∙ c.in-Ok.ensures.only event fits line in
      absurd (cc)),
  refl,
)

pub returns-in-Err-work-clause-sees : goal.returns-in-Err-work-clause-sees
returns-in-Err-work-clause-sees g c =
    let out = g.W.Watch.output c.args.watch.now in
    stops_before g.W.Watch.tells _ c.args.text.now out out c.requires.open refl

pub returns-then-not-stands-clause-sees : goal.returns-then-not-stands-clause-sees
returns-then-not-stands-clause-sees g c = (
  event_refuses (at c.args.config.now c.args.self.now) c.args.part c.args.text.now
      (record { in_order = c.runs_are_in_order.ensures; names = c.requires.at.lines; opened = c.requires.open; told = c.requires.told; clear = c.requires.clear })
      (λ event later fits line counts.
      let same : event ≡ c.in-Some.event = some_is _ _ (sym (c.in-Ok.ensures.only event fits line) ∙ c.in-Some.is) in
      c.in-Ok-work.ensures.refuses c.if-not-stands.true later
      (subst (λ (e : Event). CountsAre c.args.config.now c.args.self.now.symbol c.args.part (e ∷ later)) same counts)),
  refl,
)

pub on_event-requires-clause-next : goal.on_event-requires-clause-next
on_event-requires-clause-next g c =
    let yes : IsTrue c.in-Ok-work.stands = c.if-not-stands.false in
    is_next (g.W.Watch.heard c.args.watch.now) c.args.config.now c.args.self.now.symbol c.args.part c.work.new.self c.in-Some.event
    (c.in-Ok-work.ensures.open yes) (c.in-Ok-work.ensures.works yes) c.requires.heard

pub returns-in-Err-on_event-clause-sees : goal.returns-in-Err-on_event-clause-sees
returns-in-Err-on_event-clause-sees g c =
    let old = at c.args.config.now c.args.self.now in
    let next = c.work.new.self in
    let tells = g.W.Watch.tells in
    let end = end_text tells c.args.config.now c.args.self.now.symbol next in
    let told = rw c.in-Some.is at c.in-Ok.ensures.told in
    let yes : IsTrue c.in-Ok-work.stands = c.if-not-stands.false in
    let opened = c.in-Ok-work.ensures.open yes in
    (stops_behind tells old _ next c.args.text.now (tells.event c.args.config.now c.args.self.now.symbol next.book.journal ++ end)
    (g.W.Watch.output c.args.watch.now) (g.W.Watch.output c.on_event.new.self) refl opened
    (event_takes tells old (behind_part c.args.config.now c.args.self.now.symbol next) c.args.part next c.in-Some.event c.args.text.now end
    (record { in_order = c.runs_are_in_order.ensures; names = c.requires.at.lines; opened = c.requires.open; told = c.requires.told; clear = c.requires.clear })
    told.0 (λ other fits line. sym c.in-Some.is ∙ c.in-Ok.ensures.only other fits line)
    (c.in-Ok-work.ensures.works yes) (c.in-Ok-work.ensures.grows yes) (opens_there tells old next opened))
    (begins_first (g.W.Watch.output c.args.watch.now) (g.W.Watch.output c.on_event.new.self)
    (tells.event c.args.config.now c.args.self.now.symbol next.book.journal) end c.in-Err-on_event.ensures.text))

pub returns-in_err-go_on-clause-sees : goal.returns-in_err-go_on-clause-sees
returns-in_err-go_on-clause-sees g c =
    let old = at c.args.config.now c.args.self.now in
    let next = c.work.new.self in
    let tells = g.W.Watch.tells in
    let end = end_text tells c.args.config.now c.args.self.now.symbol next in
    let told = rw c.in-Some.is at c.in-Ok.ensures.told in
    let yes : IsTrue c.in-Ok-work.stands = c.if-not-stands.false in
    let opened = c.in-Ok-work.ensures.open yes in
    at_err _ c.from_residual.result _ _ c.from_residual.ensures.1
    (stops_behind tells old _ next c.args.text.now (tells.event c.args.config.now c.args.self.now.symbol next.book.journal ++ end)
    (g.W.Watch.output c.args.watch.now) (g.W.Watch.output c.go_on.new.watch) refl opened
    (event_takes tells old (behind_part c.args.config.now c.args.self.now.symbol next) c.args.part next c.in-Some.event c.args.text.now end
    (record { in_order = c.runs_are_in_order.ensures; names = c.requires.at.lines; opened = c.requires.open; told = c.requires.told; clear = c.requires.clear })
    told.0 (λ other fits line. sym c.in-Some.is ∙ c.in-Ok.ensures.only other fits line)
    (c.in-Ok-work.ensures.works yes) (c.in-Ok-work.ensures.grows yes) (opens_there tells old next opened))
    (begins_second (g.W.Watch.output c.args.watch.now) (g.W.Watch.output c.on_event.new.self) (g.W.Watch.output c.go_on.new.watch)
    (tells.event c.args.config.now c.args.self.now.symbol next.book.journal) end c.in-Ok-on_event.ensures.text c.in_err-go_on.ensures.goes))

pub returns-clause-sees : goal.returns-clause-sees
returns-clause-sees g c =
    let old = at c.args.config.now c.args.self.now in
    let next = c.work.new.self in
    let tells = g.W.Watch.tells in
    let end = end_text tells c.args.config.now c.args.self.now.symbol next in
    let told = rw c.in-Some.is at c.in-Ok.ensures.told in
    let yes : IsTrue c.in-Ok-work.stands = c.if-not-stands.false in
    let opened = c.in-Ok-work.ensures.open yes in
    let goes = c.in_ok-go_on.ensures.goes in
    let event = tells.event c.args.config.now c.args.self.now.symbol next.book.journal in
    record {
      stands = goes.stands;
      told = event ++ end;
      takes =
          event_takes tells old (at c.args.config.now c.go_on.new.self) c.args.part next c.in-Some.event c.args.text.now end
          (record { in_order = c.runs_are_in_order.ensures; names = c.requires.at.lines; opened = c.requires.open; told = c.requires.told; clear = c.requires.clear })
          told.0 (λ other fits line. sym c.in-Some.is ∙ c.in-Ok.ensures.only other fits line)
          (c.in-Ok-work.ensures.works yes) (c.in-Ok-work.ensures.grows yes)
          (opens_of tells (g.W.Watch.heard c.go_on.new.watch) c.args.config.now c.args.self.now.symbol old next c.go_on.new.self
          (g.W.Watch.output c.on_event.new.self) (g.W.Watch.output c.go_on.new.watch) refl refl opened goes);
      said = says_both (g.W.Watch.output c.args.watch.now) (g.W.Watch.output c.on_event.new.self) (g.W.Watch.output c.go_on.new.watch) event end
          c.in-Ok-on_event.ensures.text goes.said;
    }

pub returns-in-Err-on_event-clause-cause : goal.returns-in-Err-on_event-clause-cause
returns-in-Err-on_event-clause-cause g c = record {
  later = c.in-Err-on_event.ensures.cause.later;
  cause = λ is.
      let same : c.in-Err-on_event.fault ≡ WriteFault = cc in
      c.in-Err-on_event.ensures.cause.cause (ap (λ (f : WatchFault). Err f) same);
}

pub returns-in_err-go_on-clause-cause : goal.returns-in_err-go_on-clause-cause
returns-in_err-go_on-clause-cause g c = record {
  later = (let one = c.on_event.ensures.cause.later in let two = c.go_on.ensures.cause.later in omega arith);
  cause = λ is.
      let same = rw is at c.from_residual.ensures.1 in
      rose_on _ _ _ c.on_event.ensures.cause.later
      (c.go_on.ensures.cause.cause (c.in_err-go_on.was ∙ ap (λ (f : WatchFault). Err f) (sym same)));
}

pub on_event-requires-clause-made : goal.on_event-requires-clause-made
on_event-requires-clause-made g c =
    let yes : IsTrue c.in-Ok-work.stands = c.if-not-stands.false in
    let listed : c.reports.result.now ≡ c.work.new.self.book.reports = c.reports.ensures.list in
    take_all (length c.reports.result.now - c.args.part.told) (drop c.args.part.told c.reports.result.now)
    (omega (arith, length-drop c.args.part.told c.reports.result.now))
    ∙ ap (drop c.args.part.told) listed
    ∙ made_last c.runs_are_in_order.ensures c.args.config.now c.args.self.now.symbol c.args.part c.work.new.self c.in-Some.event
    c.requires.open c.requires.told (c.in-Ok-work.ensures.works yes)

pub go_on-requires-clause-open : goal.go_on-requires-clause-open
go_on-requires-clause-open g c =
    let yes : IsTrue c.in-Ok-work.stands = c.if-not-stands.false in
    c.in-Ok-work.ensures.open yes
