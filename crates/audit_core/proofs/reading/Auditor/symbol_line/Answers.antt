use Rattle.std.proofs.Common.{◌≡◌, ◌≤◌, ◌⊎◌, true, false, Some, None, Err, refl, sym, ◌∙◌, ap, subst, arith}
use Rattle.listing.specs.Commands.{name_at}
use Rattle.listing.specs.Lines.{symbol_line}
use Rattle.listing.proofs.Handed.{at_err}
use Rattle.listing_reader.specs.declared.lines.Counts.{Counts}
use Rattle.audit_core.specs.declared.watch.WatchFault.{WatchFault}
use Rattle.audit_core.specs.Audited.{limit_at}
use Rattle.audit_core.specs.Ahead.{at}
use Rattle.audit_core.specs.Progress.{behind_part, end_text}
use Rattle.audit_core.proofs.Saying.{opens_of, opens_there, stops_before, stops_behind}
use Rattle.audit_core.proofs.Taking.{some_is, symbol_takes, symbol_refuses}
use Rattle.audit_core.proofs.reading.Auditor.symbol_line.Goals as goal

pub returns-then-self-len-clause-sees : goal.returns-then-self-len-clause-sees
returns-then-self-len-clause-sees g c =
    let old = at c.args.config.now c.args.self.now in (
      symbol_refuses old c.args.text.now c.reports_are_few.ensures c.requires.at.is c.requires.at.lines c.requires.clear c.requires.none
          (λ more comes. absurd (omega (arith, comes.within, c.len.ensures, c.if-self-len.true))),
      refl,
    )

pub returns-in_err-counts-clause-sees : goal.returns-in_err-counts-clause-sees
returns-in_err-counts-clause-sees g c =
    let out = g.W.Watch.output c.args.watch.now in
    at_err _ c.from_residual.result _ _ c.from_residual.ensures.1
    (stops_before g.W.Watch.tells (at c.args.config.now c.args.self.now) c.args.text.now out out c.requires.at.opened refl)

pub returns-in_default-clause-sees : goal.returns-in_default-clause-sees
returns-in_default-clause-sees g c =
    let old = at c.args.config.now c.args.self.now in (
      symbol_refuses old c.args.text.now c.reports_are_few.ensures c.requires.at.is c.requires.at.lines c.requires.clear c.requires.none
          (λ more comes.
          let found : None ≡ Some comes.counts = sym c.in_default.is ∙ c.in_ok-counts.ensures.only comes.counts.events comes.counts.reports comes.few comes.short comes.line in
          absurd (cc)),
      refl,
    )

pub returns-then-not-has_room-clause-sees : goal.returns-then-not-has_room-clause-sees
returns-then-not-has_room-clause-sees g c =
    let old = at c.args.config.now c.args.self.now in (
      symbol_refuses old c.args.text.now c.reports_are_few.ensures c.requires.at.is c.requires.at.lines c.requires.clear c.requires.none
          (λ more comes.
          let same : comes.counts ≡ c.in-Some.counts =
          some_is _ _ (sym (c.in_ok-counts.ensures.only comes.counts.events comes.counts.reports comes.few comes.short comes.line) ∙ c.in-Some.is) in
          let yes : c.has_room.result ≡ true =
          c.has_room.ensures.room (subst (λ (k : Counts). k.events ≤ limit_at c.args.config.now c.args.self.now.symbol) same comes.below)
          (subst (λ (k : Counts). (1 ≤ k.events) ⊎ (k.reports ≡ 0)) same comes.room) in
          let never : true ≡ false = rw yes at c.if-not-has_room.true in
          absurd (cc)),
      refl,
    )

pub returns-in_err-part-clause-sees : goal.returns-in_err-part-clause-sees
returns-in_err-part-clause-sees g c =
    let out = g.W.Watch.output c.args.watch.now in
    at_err _ c.from_residual-in_err-part.result _ _ c.from_residual-in_err-part.ensures.1
    (stops_before g.W.Watch.tells (at c.args.config.now c.args.self.now) c.args.text.now out out c.requires.at.opened refl)

pub returns-in_err-go_on-clause-sees : goal.returns-in_err-go_on-clause-sees
returns-in_err-go_on-clause-sees g c =
    let old = at c.args.config.now c.args.self.now in
    let part = c.in_ok-part.part in
    let tells = g.W.Watch.tells in
    let end = end_text tells c.args.config.now c.args.self.now.symbol part in
    let same = c.in_ok-part.ensures.counts in
    let told = rw c.in-Some.is at c.in_ok-counts.ensures.told in
    at_err _ c.from_residual-in_err-go_on.result _ _ c.from_residual-in_err-go_on.ensures.1
    (stops_behind tells old old part c.args.text.now end (g.W.Watch.output c.args.watch.now) (g.W.Watch.output c.go_on.new.watch) refl c.in_ok-part.ensures.open
    (symbol_takes tells old (behind_part c.args.config.now c.args.self.now.symbol part) part c.args.text.now end c.reports_are_few.ensures
    c.requires.at.is c.requires.at.lines c.requires.clear c.requires.none
    (record {
      told = c.in_ok-part.ensures.empty.0;
      journal = c.in_ok-part.ensures.empty.1;
      reports = c.in_ok-part.ensures.empty.2;
      line = ap (λ (k : Counts). symbol_line (name_at c.args.config.now.symbols c.args.self.now.symbol) k.events k.reports) same ∙ told.0;
      only = λ events reports few short line. ap (λ (k : Counts). Some k) same ∙ sym c.in-Some.is ∙ c.in_ok-counts.ensures.only events reports few short line;
    })
    (opens_there tells old part c.in_ok-part.ensures.open))
    c.in_err-go_on.ensures.goes)

pub returns-clause-sees : goal.returns-clause-sees
returns-clause-sees g c =
    let old = at c.args.config.now c.args.self.now in
    let part = c.in_ok-part.part in
    let tells = g.W.Watch.tells in
    let end = end_text tells c.args.config.now c.args.self.now.symbol part in
    let same = c.in_ok-part.ensures.counts in
    let told = rw c.in-Some.is at c.in_ok-counts.ensures.told in
    let goes = c.in_ok-go_on.ensures.goes in
    record {
      stands = goes.stands;
      told = end;
      takes =
          symbol_takes tells old (at c.args.config.now c.go_on.new.self) part c.args.text.now end c.reports_are_few.ensures
          c.requires.at.is c.requires.at.lines c.requires.clear c.requires.none
          (record {
            told = c.in_ok-part.ensures.empty.0;
            journal = c.in_ok-part.ensures.empty.1;
            reports = c.in_ok-part.ensures.empty.2;
            line = ap (λ (k : Counts). symbol_line (name_at c.args.config.now.symbols c.args.self.now.symbol) k.events k.reports) same ∙ told.0;
            only = λ events reports few short line. ap (λ (k : Counts). Some k) same ∙ sym c.in-Some.is ∙ c.in_ok-counts.ensures.only events reports few short line;
          })
          (opens_of tells (g.W.Watch.heard c.go_on.new.watch) c.args.config.now c.args.self.now.symbol old part c.go_on.new.self
          (g.W.Watch.output c.args.watch.now) (g.W.Watch.output c.go_on.new.watch) refl refl c.in_ok-part.ensures.open goes);
      said = goes.said;
    }

pub returns-in_err-go_on-clause-cause : goal.returns-in_err-go_on-clause-cause
returns-in_err-go_on-clause-cause g c = record {
  later = c.go_on.ensures.cause.later;
  cause = λ is.
      let same = rw is at c.from_residual-in_err-go_on.ensures.1 in
      c.go_on.ensures.cause.cause (c.in_err-go_on.was ∙ ap (λ (f : WatchFault). Err f) (sym same));
}
