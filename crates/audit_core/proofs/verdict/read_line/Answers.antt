use Rattle.std.proofs.Common.{◌≡◌, ◌+◌, ℕ, None, Some, Err, ap, refl, sym, ◌∙◌}
use Rattle.line_reader.specs.NextLaws.{gives_line, gives_end, gives_long}
use Rattle.audit_core.specs.Ahead.{at}
use Rattle.audit_core.specs.declared.verdict.Verdict.TheVariants.{Differs, Same}
use Rattle.audit_core.specs.declared.watch.WatchFault.TheVariants.{NoMemory, WriteFault}
use Rattle.audit_core.proofs.Passing.{line_on, line_differs, line_stops, end_differs, end_same, long_at, stops_here, tells_here}
use Rattle.audit_core.proofs.verdict.read_line.Goals as goal

pub returns-then-is_over-clause-stops : goal.returns-then-is_over-clause-stops
returns-then-is_over-clause-stops g c =
    let out = g.W.Watch.output c.args.watch.now in
    stops_here g.W.Watch.tells (at c.args.config.now c.args.auditor.now) _ out out c.requires.stands.at.opened refl

pub returns-in-Ok-clause-stands : goal.returns-in-Ok-clause-stands
returns-in-Ok-clause-stands g c = λ is.
    let none : c.verdict_at.result ≡ None = cc in
    let same = c.verdict_at.ensures.on none in
    let passes = rw same at c.in-Ok.ensures.sees in
    passes.stands

pub returns-in-Ok-clause-on : goal.returns-in-Ok-clause-on
returns-in-Ok-clause-on g c = λ is.
    let none : c.verdict_at.result ≡ None = cc in
    let same = c.verdict_at.ensures.on none in
    let passes = rw same at c.in-Ok.ensures.sees in
    let x = gives_line _ _ _ _ _ _ _ c.in-Line.is c.next.follows.holds-at-none in
    line_on g.W.Watch.tells (at c.args.config.now c.args.auditor.now) (at c.args.config.now c.line.new.self) _ _ _ _ _ passes.told _
    (g.W.Watch.output c.args.watch.now) (g.W.Watch.output c.line.new.watch) x passes.takes passes.said

pub returns-in-Ok-clause-differs : goal.returns-in-Ok-clause-differs
returns-in-Ok-clause-differs g c = λ line expected is.
    let found : c.verdict_at.result ≡ Some (Differs line expected) = cc in
    let x = gives_line _ _ _ _ _ _ _ c.in-Line.is c.next.follows.holds-at-none in
    let differs = c.verdict_at.ensures.differs line expected found in
    let place : line ≡ c.args.reader.now.lines + 1 = differs.0 ∙ ap (λ (n : ℕ). n + 1) c.lines-line.ensures.lines in
    let refuses = rw differs.1 at c.in-Ok.ensures.sees in
    line_differs (at c.args.config.now c.args.auditor.now) _ _ _ _ _ _ line expected x place refuses.0

pub returns-in-Ok-clause-tells : goal.returns-in-Ok-clause-tells
returns-in-Ok-clause-tells g c = λ line expected is.
    let found : c.verdict_at.result ≡ Some (Differs line expected) = cc in
    let differs = c.verdict_at.ensures.differs line expected found in
    let place : line ≡ c.args.reader.now.lines + 1 = differs.0 ∙ ap (λ (n : ℕ). n + 1) c.lines-line.ensures.lines in
    let refuses = rw differs.1 at c.in-Ok.ensures.sees in
    tells_here g.W.Watch.tells (at c.args.config.now c.args.auditor.now) c.args.reader.now.lines line _
    (g.W.Watch.output c.args.watch.now) (g.W.Watch.output c.line.new.watch) c.requires.stands.at.opened place refuses.1

pub returns-in-Err-WriteFault-clause-stops : goal.returns-in-Err-WriteFault-clause-stops
returns-in-Err-WriteFault-clause-stops g c =
    let e : c.line.result ≡ Err WriteFault = cc in
    let x = gives_line _ _ _ _ _ _ _ c.in-Line.is c.next.follows.holds-at-none in
    let stops = rw e at c.line.ensures.sees in
    line_stops g.W.Watch.tells (at c.args.config.now c.args.auditor.now) _ _ _ _ _ _
    (g.W.Watch.output c.args.watch.now) (g.W.Watch.output c.line.new.watch) x stops

pub returns-in-Err-NoMemory-clause-stops : goal.returns-in-Err-NoMemory-clause-stops
returns-in-Err-NoMemory-clause-stops g c =
    let e : c.line.result ≡ Err NoMemory = cc in
    let x = gives_line _ _ _ _ _ _ _ c.in-Line.is c.next.follows.holds-at-none in
    let stops = rw e at c.line.ensures.sees in
    line_stops g.W.Watch.tells (at c.args.config.now c.args.auditor.now) _ _ _ _ _ _
    (g.W.Watch.output c.args.watch.now) (g.W.Watch.output c.line.new.watch) x stops

pub returns-in-End-clause-same : goal.returns-in-End-clause-same
returns-in-End-clause-same g c = λ is.
    let found : c.verdict_at_end.result ≡ Same = cc in
    let x = gives_end _ _ _ _ _ _ c.in-End.is c.next.follows.holds-at-none in
    let out = g.W.Watch.output c.args.watch.now in
    end_same g.W.Watch.tells (at c.args.config.now c.args.auditor.now) _ _ _ _ _ out out x refl (c.verdict_at_end.ensures.same found g.W.Watch.tells)

pub returns-in-End-clause-differs : goal.returns-in-End-clause-differs
returns-in-End-clause-differs g c = λ line expected is.
    let found : c.verdict_at_end.result ≡ Differs line expected = cc in
    let x = gives_end _ _ _ _ _ _ c.in-End.is c.next.follows.holds-at-none in
    let differs = c.verdict_at_end.ensures.differs line expected found in
    let place : line ≡ c.args.reader.now.lines + 1 = differs.0 ∙ ap (λ (n : ℕ). n + 1) c.lines-line.ensures.lines in
    end_differs (at c.args.config.now c.args.auditor.now) _ _ _ _ _ line expected x place differs.1 differs.2

pub returns-in-End-clause-tells : goal.returns-in-End-clause-tells
returns-in-End-clause-tells g c = λ line expected is.
    let found : c.verdict_at_end.result ≡ Differs line expected = cc in
    let differs = c.verdict_at_end.ensures.differs line expected found in
    let place : line ≡ c.args.reader.now.lines + 1 = differs.0 ∙ ap (λ (n : ℕ). n + 1) c.lines-line.ensures.lines in
    let out = g.W.Watch.output c.args.watch.now in
    tells_here g.W.Watch.tells (at c.args.config.now c.args.auditor.now) c.args.reader.now.lines line _ out out c.requires.stands.at.opened place refl

pub returns-in-TooLong-clause-long : goal.returns-in-TooLong-clause-long
returns-in-TooLong-clause-long g c = λ line is.
    let found : c.lines-line.result + 1 ≡ line = cc in
    let x = gives_long _ _ _ _ _ c.in-TooLong.is c.next.follows.holds-at-none in
    let place : line ≡ c.args.reader.now.lines + 1 = sym found ∙ ap (λ (n : ℕ). n + 1) c.lines-line.ensures.lines in
    long_at _ _ _ _ line x place

pub returns-in-TooLong-clause-stops : goal.returns-in-TooLong-clause-stops
returns-in-TooLong-clause-stops g c =
    let out = g.W.Watch.output c.args.watch.now in
    stops_here g.W.Watch.tells (at c.args.config.now c.args.auditor.now) _ out out c.requires.stands.at.opened refl

pub returns-in-ReadFault-clause-stops : goal.returns-in-ReadFault-clause-stops
returns-in-ReadFault-clause-stops g c =
    let out = g.W.Watch.output c.args.watch.now in
    stops_here g.W.Watch.tells (at c.args.config.now c.args.auditor.now) _ out out c.requires.stands.at.opened refl
