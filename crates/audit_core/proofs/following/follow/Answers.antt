use Rattle.std.proofs.Common.{ap, refl}
use Rattle.line_reader.specs.Reading.{Reading}
use Rattle.audit_core.specs.Audited.{IsListing}
use Rattle.audit_core.specs.Differing.{DiffersAt, IsLongLine}
use Rattle.audit_core.specs.Ahead.{Awaits, at}
use Rattle.audit_core.proofs.Erring.{if_at_err, if_err_map}
use Rattle.audit_core.proofs.Passing.{file_same, file_line, file_before, file_some, file_none, differs_fewer, differs_whole}
use Rattle.audit_core.proofs.following.follow.Goals as goal

pub read_lines-verdict-requires-clause-stands : goal.read_lines-verdict-requires-clause-stands
read_lines-verdict-requires-clause-stands g c =
    let first = c.new-auditor.ensures.first in record {
      at = c.new-auditor.ensures.at;
      heard = rw (first.0, first.1) c.requires.heard;
    }

pub returns-clause-same : goal.returns-clause-same
returns-clause-same g c = λ is.
    file_same g.W.Watch.tells (g.H.Shelf.told c.args.shelf.now) c.args.name.now c.in_ok-reader.reader.held (g.H.Shelf.left c.begin.new.self)
    (at c.args.config.now c.new-auditor.result) (g.W.Watch.output c.args.watch.now) (g.W.Watch.output c.read_lines-verdict.new.watch)
    c.in-Ok.ensures.opens (ap (λ (r : Reading). r.held) c.in_ok-reader.ensures) (c.new-auditor.ensures.none g.W.Watch.tells)
    (c.read_lines-verdict.ensures.same is)

pub returns-clause-differs : goal.returns-clause-differs
returns-clause-differs g c = λ line expected is.
    let awaits = Awaits (at c.args.config.now c.new-auditor.result) in
    file_line (g.H.Shelf.told c.args.shelf.now) c.args.name.now c.in_ok-reader.reader.held (g.H.Shelf.left c.begin.new.self) c.in_ok-reader.reader.lines line
    (λ text number. DiffersAt awaits text number expected) (λ text. DiffersAt (IsListing c.args.config.now) text line expected)
    c.in-Ok.ensures.opens (ap (λ (r : Reading). r.held) c.in_ok-reader.ensures) (ap (λ (r : Reading). r.lines) c.in_ok-reader.ensures)
    (c.read_lines-verdict.ensures.differs line expected is)
    (λ text differs. differs_fewer (IsListing c.args.config.now) awaits text line expected c.new-auditor.ensures.awaited differs)

pub returns-clause-exact : goal.returns-clause-exact
returns-clause-exact g c = λ line expected is.
    let awaits = Awaits (at c.args.config.now c.new-auditor.result) in
    file_line (g.H.Shelf.told c.args.shelf.now) c.args.name.now c.in_ok-reader.reader.held (g.H.Shelf.left c.begin.new.self) c.in_ok-reader.reader.lines line
    (λ text number. DiffersAt awaits text number expected) (λ text. IsListing c.args.config.now text → ⊥)
    c.in-Ok.ensures.opens (ap (λ (r : Reading). r.held) c.in_ok-reader.ensures) (ap (λ (r : Reading). r.lines) c.in_ok-reader.ensures)
    (c.read_lines-verdict.ensures.differs line expected is)
    (λ text differs listed. differs_whole awaits text line expected differs (c.new-auditor.ensures.awaited text listed))

pub returns-clause-tells : goal.returns-clause-tells
returns-clause-tells g c = λ line expected is.
    file_before g.W.Watch.tells (g.H.Shelf.told c.args.shelf.now) c.args.name.now c.in_ok-reader.reader.held (g.H.Shelf.left c.begin.new.self)
    (at c.args.config.now c.new-auditor.result) c.in_ok-reader.reader.lines line (g.W.Watch.output c.args.watch.now) (g.W.Watch.output c.read_lines-verdict.new.watch)
    c.in-Ok.ensures.opens (ap (λ (r : Reading). r.held) c.in_ok-reader.ensures) (ap (λ (r : Reading). r.lines) c.in_ok-reader.ensures)
    (c.new-auditor.ensures.none g.W.Watch.tells) (c.read_lines-verdict.ensures.tells line expected is)

pub returns-clause-stops : goal.returns-clause-stops
returns-clause-stops g c =
    if_err_map c.read_lines-verdict.result _ _
    (file_some g.W.Watch.tells (g.H.Shelf.told c.args.shelf.now) c.args.name.now c.in_ok-reader.reader.held (g.H.Shelf.left c.begin.new.self)
    (at c.args.config.now c.new-auditor.result) (g.W.Watch.output c.args.watch.now) (g.W.Watch.output c.read_lines-verdict.new.watch)
    c.in-Ok.ensures.opens (ap (λ (r : Reading). r.held) c.in_ok-reader.ensures) (c.new-auditor.ensures.none g.W.Watch.tells))
    c.read_lines-verdict.ensures.stops

pub returns-in_err-reader-clause-stops : goal.returns-in_err-reader-clause-stops
returns-in_err-reader-clause-stops g c =
    let out = g.W.Watch.output c.args.watch.now in
    if_at_err _ c.from_residual.result _ c.from_residual.ensures.1
    (file_none g.W.Watch.tells c.args.config.now (g.H.Shelf.told c.args.shelf.now) c.args.name.now out out refl)

pub returns-in-Err-clause-stops : goal.returns-in-Err-clause-stops
returns-in-Err-clause-stops g c =
    let out = g.W.Watch.output c.args.watch.now in
    file_none g.W.Watch.tells c.args.config.now (g.H.Shelf.told c.args.shelf.now) c.args.name.now out out refl

pub returns-clause-long : goal.returns-clause-long
returns-clause-long g c = λ line is.
    file_line (g.H.Shelf.told c.args.shelf.now) c.args.name.now c.in_ok-reader.reader.held (g.H.Shelf.left c.begin.new.self) c.in_ok-reader.reader.lines line
    IsLongLine (λ text. IsLongLine text line)
    c.in-Ok.ensures.opens (ap (λ (r : Reading). r.held) c.in_ok-reader.ensures) (ap (λ (r : Reading). r.lines) c.in_ok-reader.ensures)
    (c.read_lines-verdict.ensures.long line is) (λ text long. long)
