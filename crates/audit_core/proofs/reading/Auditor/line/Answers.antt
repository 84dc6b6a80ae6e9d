use Rattle.std.proofs.Common.{◌≡◌, Option, Some, None, MatchResult, subst}
use Rattle.audit_core.specs.declared.part.OpenPart.{OpenPart}
use Rattle.audit_core.specs.Ahead.{Sees, StopsIn}
use Rattle.audit_core.specs.Progress.{journal_in}
use Rattle.audit_core.proofs.reading.Auditor.line.Goals as goal

pub symbol_line-requires-clause-heard : goal.symbol_line-requires-clause-heard
symbol_line-requires-clause-heard g c =
    let e : c.args.self.now.part ≡ None = cc in
    subst (λ (p : Option OpenPart). g.W.Watch.heard c.args.watch.now c.args.config.now c.args.self.now.symbol (journal_in p)) e c.requires.stands.heard

pub report_line-requires-clause-heard : goal.report_line-requires-clause-heard
report_line-requires-clause-heard g c =
    let e : c.args.self.now.part ≡ Some c.in-Some.part = cc in
    subst (λ (p : Option OpenPart). g.W.Watch.heard c.args.watch.now c.args.config.now c.args.self.now.symbol (journal_in p)) e c.requires.stands.heard

pub event_line-requires-clause-heard : goal.event_line-requires-clause-heard
event_line-requires-clause-heard g c =
    let e : c.args.self.now.part ≡ Some c.in-Some.part = cc in
    subst (λ (p : Option OpenPart). g.W.Watch.heard c.args.watch.now c.args.config.now c.args.self.now.symbol (journal_in p)) e c.requires.stands.heard

pub returns-in-None-clause-sees : goal.returns-in-None-clause-sees
returns-in-None-clause-sees g c =
    let e : c.take.new.self ≡ c.args.self.now.part = cc in
    subst (λ (p : Option OpenPart). MatchResult c.symbol_line.result
    (λ seen. Sees g.W.Watch.tells (g.W.Watch.heard c.symbol_line.new.watch) c.args.config.now (record { config = c.args.config.now; symbol = c.args.self.now.symbol; part = p })
    c.symbol_line.new.self c.args.text.now (g.W.Watch.output c.args.watch.now) (g.W.Watch.output c.symbol_line.new.watch) seen)
    (λ _. StopsIn g.W.Watch.tells (record { config = c.args.config.now; symbol = c.args.self.now.symbol; part = p }) c.args.text.now
    (g.W.Watch.output c.args.watch.now) (g.W.Watch.output c.symbol_line.new.watch))) e c.symbol_line.ensures.sees

pub returns-in-Some-clause-sees : goal.returns-in-Some-clause-sees
returns-in-Some-clause-sees g c =
    let e : Some c.in-Some.part ≡ c.args.self.now.part = cc in
    subst (λ (p : Option OpenPart). MatchResult c.report_line.result
    (λ seen. Sees g.W.Watch.tells (g.W.Watch.heard c.report_line.new.watch) c.args.config.now (record { config = c.args.config.now; symbol = c.args.self.now.symbol; part = p })
    c.report_line.new.self c.args.text.now (g.W.Watch.output c.args.watch.now) (g.W.Watch.output c.report_line.new.watch) seen)
    (λ _. StopsIn g.W.Watch.tells (record { config = c.args.config.now; symbol = c.args.self.now.symbol; part = p }) c.args.text.now
    (g.W.Watch.output c.args.watch.now) (g.W.Watch.output c.report_line.new.watch))) e c.report_line.ensures.sees

pub returns-in-Some-2-clause-sees : goal.returns-in-Some-2-clause-sees
returns-in-Some-2-clause-sees g c =
    let e : Some c.in-Some.part ≡ c.args.self.now.part = cc in
    subst (λ (p : Option OpenPart). MatchResult c.event_line.result
    (λ seen. Sees g.W.Watch.tells (g.W.Watch.heard c.event_line.new.watch) c.args.config.now (record { config = c.args.config.now; symbol = c.args.self.now.symbol; part = p })
    c.event_line.new.self c.args.text.now (g.W.Watch.output c.args.watch.now) (g.W.Watch.output c.event_line.new.watch) seen)
    (λ _. StopsIn g.W.Watch.tells (record { config = c.args.config.now; symbol = c.args.self.now.symbol; part = p }) c.args.text.now
    (g.W.Watch.output c.args.watch.now) (g.W.Watch.output c.event_line.new.watch))) e c.event_line.ensures.sees

pub report_line-requires-clause-none : goal.report_line-requires-clause-none
report_line-requires-clause-none g c = c.take.ensures.after

pub event_line-requires-clause-none : goal.event_line-requires-clause-none
event_line-requires-clause-none g c = c.take.ensures.after
