use Rattle.std.proofs.Common.{◌+◌, ◌∙◌, Option, sym, refl, subst, arith}
use Rattle.audit_core.specs.declared.part.OpenPart.{OpenPart}
use Rattle.audit_core.specs.Progress.{OpenIf, journal_in}
use Rattle.audit_core.proofs.Hearing.{is_book_of}
use Rattle.audit_core.proofs.Saying.{end_begins, goes_on, goes_whole}
use Rattle.audit_core.proofs.reading.Auditor.go_on.Goals as goal

pub on_end-requires-clause-of : goal.on_end-requires-clause-of
on_end-requires-clause-of g c = is_book_of c.args.config.now c.args.self.now.symbol c.args.part c.requires.open

pub on_end-requires-clause-heard : goal.on_end-requires-clause-heard
on_end-requires-clause-heard g c = c.requires.heard

pub returns-in-Err-clause-goes : goal.returns-in-Err-clause-goes
returns-in-Err-clause-goes g c =
    end_begins g.W.Watch.tells c.args.config.now c.args.self.now.symbol c.args.part (g.W.Watch.output c.args.watch.now) (g.W.Watch.output c.on_end.new.self)
    (sym c.is_whole.ensures.value ∙ c.if-is_whole.true) c.in-Err.ensures.text

pub returns-in-Err-clause-cause : goal.returns-in-Err-clause-cause
returns-in-Err-clause-cause g c = c.in-Err.ensures.cause

pub returns-in-Ok-clause-goes : goal.returns-in-Ok-clause-goes
returns-in-Ok-clause-goes g c =
    let none = sym c.requires.none in
    goes_whole g.W.Watch.tells (g.W.Watch.heard c.on_end.new.self) c.args.config.now c.args.self.now.symbol c.args.part _
    (g.W.Watch.output c.args.watch.now) (g.W.Watch.output c.on_end.new.self) (sym c.is_whole.ensures.value ∙ c.if-is_whole.true)
    (record {
      at = record {
        is = c.requires.at.is;
        words = c.requires.at.words;
        lines = c.requires.at.lines;
        within = omega (arith, c.requires.open.within);
        opened = subst (OpenIf c.args.config.now (c.args.self.now.symbol + 1)) none tt;
      };
      heard = subst (λ (p : Option OpenPart). g.W.Watch.heard c.on_end.new.self c.args.config.now (c.args.self.now.symbol + 1) (journal_in p)) none c.in-Ok.ensures.heard;
    })
    refl c.requires.none c.in-Ok.ensures.text

pub returns-in-Ok-clause-cause : goal.returns-in-Ok-clause-cause
returns-in-Ok-clause-cause g c = c.in-Ok.ensures.cause

pub returns-else-is_whole-clause-goes : goal.returns-else-is_whole-clause-goes
returns-else-is_whole-clause-goes g c =
    let some = sym c.replace.ensures.after in
    goes_on g.W.Watch.tells (g.W.Watch.heard c.args.watch.now) c.args.config.now c.args.self.now.symbol c.args.part _
    (g.W.Watch.output c.args.watch.now) (sym c.is_whole.ensures.value ∙ c.if-is_whole.false)
    (record {
      at = record {
        is = c.requires.at.is;
        words = c.requires.at.words;
        lines = c.requires.at.lines;
        within = c.requires.at.within;
        opened = subst (OpenIf c.args.config.now c.args.self.now.symbol) some c.requires.open;
      };
      heard = subst (λ (p : Option OpenPart). g.W.Watch.heard c.args.watch.now c.args.config.now c.args.self.now.symbol (journal_in p)) some c.requires.heard;
    })
    refl c.replace.ensures.after
