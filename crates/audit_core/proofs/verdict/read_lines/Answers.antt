use Rattle.std.proofs.Common.{◌≡◌, Option, None, Some, Ok, Err, refl, sym, ap, ◌∙◌, arith}
use Rattle.line_reader.specs.Reading.{ahead}
use Rattle.audit_core.specs.Ahead.{at}
use Rattle.audit_core.specs.declared.verdict.Verdict.{Verdict}
use Rattle.audit_core.specs.declared.verdict.Verdict.TheVariants.{Same, Differs}
use Rattle.audit_core.specs.declared.verdict.AuditFault.{AuditFault}
use Rattle.audit_core.specs.declared.verdict.AuditFault.TheVariants.{LongLine, TooLarge}
use Rattle.audit_core.proofs.Erring.{if_at_err}
use Rattle.audit_core.proofs.Passing.{reads_none, large_later, reads_more, ends_later, differs_at_later, long_at_later, tells_later, stops_later}
use Rattle.audit_core.proofs.verdict.read_lines.Goals as goal

pub returns-in_err-verdict-clause-long : goal.returns-in_err-verdict-clause-long
returns-in_err-verdict-clause-long g c = λ line is.
    let same = rw is at c.from_residual.ensures.1 in
    let e : c.read_line.result ≡ Err (LongLine line) = c.in_err-verdict.was ∙ ap (λ (f : AuditFault). Err f) (sym same) in
    long_at_later g.W.Watch.tells (at c.args.config.now c.args.auditor.now) (at c.args.config.now c.lines.auditor) c.args.reader.now c.lines.reader
    (ahead c.args.reader.now.held (g.H.Shelf.left c.args.shelf.now)) (ahead c.lines.reader.held (g.H.Shelf.left c.lines.shelf))
    (g.W.Watch.output c.args.watch.now) (g.W.Watch.output c.lines.watch) line
    c.lines.invariant.on (c.read_line.ensures.long line e)

pub returns-in_err-verdict-clause-stops : goal.returns-in_err-verdict-clause-stops
returns-in_err-verdict-clause-stops g c =
    if_at_err _ c.from_residual.result _ c.from_residual.ensures.1
    (stops_later g.W.Watch.tells (at c.args.config.now c.args.auditor.now) (at c.args.config.now c.lines.auditor) c.args.reader.now c.lines.reader
    (ahead c.args.reader.now.held (g.H.Shelf.left c.args.shelf.now)) (ahead c.lines.reader.held (g.H.Shelf.left c.lines.shelf))
    (g.W.Watch.output c.args.watch.now) (g.W.Watch.output c.lines.watch) (g.W.Watch.output c.read_line.new.watch) refl
    c.lines.invariant.on c.in_err-verdict.ensures.stops)

pub returns-in-Some-clause-same : goal.returns-in-Some-clause-same
returns-in-Some-clause-same g c = λ is.
    let v : c.in-Some.verdict ≡ Same = cc in
    let s : c.in_ok-verdict.field-0 ≡ Some Same = c.in-Some.is ∙ ap (λ (x : Verdict). Some x) v in
    let r : c.read_line.result ≡ Ok c.in_ok-verdict.field-0 = c.in_ok-verdict.was in
    let e : c.read_line.result ≡ Ok (Some Same) = r ∙ ap (λ (x : Option Verdict). Ok x) s in
    ends_later g.W.Watch.tells (at c.args.config.now c.args.auditor.now) (at c.args.config.now c.lines.auditor) c.args.reader.now c.lines.reader
    (ahead c.args.reader.now.held (g.H.Shelf.left c.args.shelf.now)) (ahead c.lines.reader.held (g.H.Shelf.left c.lines.shelf))
    (g.W.Watch.output c.args.watch.now) (g.W.Watch.output c.lines.watch) (g.W.Watch.output c.read_line.new.watch) refl
    c.lines.invariant.on (c.read_line.ensures.same e)

pub returns-in-Some-clause-differs : goal.returns-in-Some-clause-differs
returns-in-Some-clause-differs g c = λ line expected is.
    let v : c.in-Some.verdict ≡ Differs line expected = cc in
    let s : c.in_ok-verdict.field-0 ≡ Some (Differs line expected) = c.in-Some.is ∙ ap (λ (x : Verdict). Some x) v in
    let r : c.read_line.result ≡ Ok c.in_ok-verdict.field-0 = c.in_ok-verdict.was in
    let e : c.read_line.result ≡ Ok (Some (Differs line expected)) = r ∙ ap (λ (x : Option Verdict). Ok x) s in
    differs_at_later g.W.Watch.tells (at c.args.config.now c.args.auditor.now) (at c.args.config.now c.lines.auditor) c.args.reader.now c.lines.reader
    (ahead c.args.reader.now.held (g.H.Shelf.left c.args.shelf.now)) (ahead c.lines.reader.held (g.H.Shelf.left c.lines.shelf))
    (g.W.Watch.output c.args.watch.now) (g.W.Watch.output c.lines.watch) line expected
    c.lines.invariant.on (c.read_line.ensures.differs line expected e)

pub returns-in-Some-clause-tells : goal.returns-in-Some-clause-tells
returns-in-Some-clause-tells g c = λ line expected is.
    let v : c.in-Some.verdict ≡ Differs line expected = cc in
    let s : c.in_ok-verdict.field-0 ≡ Some (Differs line expected) = c.in-Some.is ∙ ap (λ (x : Verdict). Some x) v in
    let r : c.read_line.result ≡ Ok c.in_ok-verdict.field-0 = c.in_ok-verdict.was in
    let e : c.read_line.result ≡ Ok (Some (Differs line expected)) = r ∙ ap (λ (x : Option Verdict). Ok x) s in
    tells_later g.W.Watch.tells (at c.args.config.now c.args.auditor.now) (at c.args.config.now c.lines.auditor) c.args.reader.now c.lines.reader
    (ahead c.args.reader.now.held (g.H.Shelf.left c.args.shelf.now)) (ahead c.lines.reader.held (g.H.Shelf.left c.lines.shelf)) line
    (g.W.Watch.output c.args.watch.now) (g.W.Watch.output c.lines.watch) (g.W.Watch.output c.read_line.new.watch) refl
    c.lines.invariant.on (c.read_line.ensures.tells line expected e)

pub lines-preserved : goal.lines-preserved
lines-preserved g c =
    let i = c.lines.invariant in
    let e : c.read_line.result ≡ Ok None = cc in
    let within = c.read_line.ensures.within e in
    record {
      stands = c.read_line.ensures.stands e;
      on = reads_more g.W.Watch.tells (at c.args.config.now c.args.auditor.now) (at c.args.config.now c.lines.auditor) (at c.args.config.now c.read_line.new.auditor)
          c.args.reader.now c.lines.reader c.read_line.new.reader
          (ahead c.args.reader.now.held (g.H.Shelf.left c.args.shelf.now)) (ahead c.lines.reader.held (g.H.Shelf.left c.lines.shelf))
          (ahead c.read_line.new.reader.held (g.H.Shelf.left c.read_line.new.shelf))
          (g.W.Watch.output c.args.watch.now) (g.W.Watch.output c.lines.watch) (g.W.Watch.output c.read_line.new.watch)
          i.on (c.read_line.ensures.on e);
      most = c.read_line.ensures.most ∙ i.most;
      within = omega (arith, within.1, c.read_line.ensures.most);
      told = c.read_line.ensures.told ∙ i.told;
      begun = c.read_line.ensures.begun;
      later = omega (arith, i.later, c.read_line.ensures.later.0);
      put_later = omega (arith, i.put_later, c.read_line.ensures.later.1);
      sure = λ sure. (c.read_line.ensures.sure (i.sure sure)).0;
    }

pub lines-init : goal.lines-init
lines-init g c = record {
  stands = c.requires.stands;
  on = reads_none g.W.Watch.tells (at c.args.config.now c.args.auditor.now) c.args.reader.now
      (ahead c.args.reader.now.held (g.H.Shelf.left c.args.shelf.now)) (g.W.Watch.output c.args.watch.now);
  most = refl;
  within = c.requires.within;
  told = refl;
  begun = c.requires.begun;
  later = omega arith;
  put_later = omega arith;
  sure = λ sure. sure;
}

pub returns-in_err-verdict-clause-large : goal.returns-in_err-verdict-clause-large
returns-in_err-verdict-clause-large g c = λ is text e.
    let same = rw is at c.from_residual.ensures.1 in
    let r : c.read_line.result ≡ Err TooLarge = c.in_err-verdict.was ∙ ap (λ (f : AuditFault). Err f) (sym same) in
    large_later g.W.Watch.tells (at c.args.config.now c.args.auditor.now) (at c.args.config.now c.lines.auditor) c.args.reader.now c.lines.reader
    (ahead c.args.reader.now.held (g.H.Shelf.left c.args.shelf.now)) (ahead c.lines.reader.held (g.H.Shelf.left c.lines.shelf))
    (g.W.Watch.output c.args.watch.now) (g.W.Watch.output c.lines.watch) c.args.reader.now.most c.lines.invariant.on
    (λ t h. omega (arith, c.read_line.ensures.large r t h, c.lines.invariant.most)) text e
