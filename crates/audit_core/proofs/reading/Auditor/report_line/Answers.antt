use Rattle.std.proofs.Common.{◌≡◌, ◌+◌, ◌∙◌, true, false, Err, sym, ap, refl}
use lib.Pointwise.{bytes_decides}
use Rattle.listing.proofs.Handed.{at_err}
use Rattle.audit_core.specs.declared.part.OpenPart.{OpenPart}
use Rattle.audit_core.specs.declared.watch.WatchFault.{WatchFault}
use Rattle.audit_core.specs.Ahead.{at}
use Rattle.audit_core.specs.Progress.{behind_part, end_text}
use Rattle.audit_core.proofs.Saying.{opens_of, opens_there, stops_before, stops_behind}
use Rattle.audit_core.proofs.Standing.{report_opens}
use Rattle.audit_core.proofs.Taking.{report_takes, report_refuses}
use Rattle.audit_core.proofs.reading.Auditor.report_line.Goals as goal

pub returns-in-Err-clause-sees : goal.returns-in-Err-clause-sees
returns-in-Err-clause-sees g c =
    let out = g.W.Watch.output c.args.watch.now in
    stops_before g.W.Watch.tells _ c.args.text.now out out c.requires.open refl

pub go_on-requires-clause-open : goal.go_on-requires-clause-open
go_on-requires-clause-open g c = report_opens c.args.config.now c.args.self.now.symbol c.args.part c.requires.open c.requires.more

pub returns-in_err-go_on-clause-sees : goal.returns-in_err-go_on-clause-sees
returns-in_err-go_on-clause-sees g c =
    let old = at c.args.config.now c.args.self.now in
    let next : OpenPart = record { counts = c.args.part.counts; book = c.args.part.book; told = c.args.part.told + 1 } in
    let opened = report_opens c.args.config.now c.args.self.now.symbol c.args.part c.requires.open c.requires.more in
    let tells = g.W.Watch.tells in
    let end = end_text tells c.args.config.now c.args.self.now.symbol next in
    let text : c.as_slice.result.now ≡ c.args.text.now = (bytes_decides c.as_slice.result.now c.args.text.now).0 (sym c.if-eq.ensures) in
    at_err _ c.from_residual.result _ _ c.from_residual.ensures.1
    (stops_behind tells old _ next c.args.text.now end (g.W.Watch.output c.args.watch.now) (g.W.Watch.output c.go_on.new.watch) refl opened
    (report_takes tells old (behind_part c.args.config.now c.args.self.now.symbol next) c.args.part next c.in-Ok.line.items c.args.text.now end
    refl refl refl c.in-Ok.ensures.next (sym c.as_slice.ensures.value ∙ text) c.requires.clear (opens_there tells old next opened))
    c.in_err-go_on.ensures.goes)

pub returns-in_ok-go_on-clause-sees : goal.returns-in_ok-go_on-clause-sees
returns-in_ok-go_on-clause-sees g c =
    let old = at c.args.config.now c.args.self.now in
    let next : OpenPart = record { counts = c.args.part.counts; book = c.args.part.book; told = c.args.part.told + 1 } in
    let opened = report_opens c.args.config.now c.args.self.now.symbol c.args.part c.requires.open c.requires.more in
    let tells = g.W.Watch.tells in
    let end = end_text tells c.args.config.now c.args.self.now.symbol next in
    let text : c.as_slice.result.now ≡ c.args.text.now = (bytes_decides c.as_slice.result.now c.args.text.now).0 (sym c.if-eq.ensures) in
    let goes = c.in_ok-go_on.ensures.goes in
    record {
      stands = goes.stands;
      told = end;
      takes =
          report_takes tells old (at c.args.config.now c.go_on.new.self) c.args.part next c.in-Ok.line.items c.args.text.now end
          refl refl refl c.in-Ok.ensures.next (sym c.as_slice.ensures.value ∙ text) c.requires.clear
          (opens_of tells (g.W.Watch.heard c.go_on.new.watch) c.args.config.now c.args.self.now.symbol old next c.go_on.new.self
          (g.W.Watch.output c.args.watch.now) (g.W.Watch.output c.go_on.new.watch) refl refl opened goes);
      said = goes.said;
    }

pub returns-else-eq-clause-sees : goal.returns-else-eq-clause-sees
returns-else-eq-clause-sees g c = (
  report_refuses (at c.args.config.now c.args.self.now) c.args.part c.in-Ok.line.items c.args.text.now c.in-Ok.ensures.next c.in-Ok.ensures.clear c.requires.clear
      (λ same.
      let never : false ≡ true = c.if-eq.ensures ∙ (bytes_decides c.as_slice.result.now c.args.text.now).1 (c.as_slice.ensures.value ∙ same) in
      absurd (cc)),
  refl,
)

pub returns-in_err-go_on-clause-cause : goal.returns-in_err-go_on-clause-cause
returns-in_err-go_on-clause-cause g c = record {
  later = c.go_on.ensures.cause.later;
  cause = λ is.
      let same = rw is at c.from_residual.ensures.1 in
      c.go_on.ensures.cause.cause (c.in_err-go_on.was ∙ ap (λ (f : WatchFault). Err f) (sym same));
}
