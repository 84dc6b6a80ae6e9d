-- The text is held, and put where it makes up a piece.
use Rattle.listing.proofs.Handed.{appends_none, at_err}
use Rattle.audit_core.specs.Telling.{Output}
use Rattle.audit_tables.proofs.Putting.{begins_pushed, says_pushed}
use Rattle.audit_tables.proofs.rows.RowTableWatch.on_end.Goals as goal

pub returns-in_err-push_end-clause-text : goal.returns-in_err-push_end-clause-text
returns-in_err-push_end-clause-text g c =
    at_err _ c.from_residual.result _ _ c.from_residual.ensures.1 (0, appends_none (g.K.Sink.told c.args.self.now.lines.out))

pub returns-in-Ok-clause-text : goal.returns-in-Ok-clause-text
returns-in-Ok-clause-text g c =
    let held = c.args.self.now.lines.bytes.items in
    let to : Output = record { told = g.K.Sink.told c.put_piece.new.self.out; held = c.put_piece.new.self.bytes.items } in
    says_pushed (g.K.Sink.told c.args.self.now.lines.out) held c.push_end.new.out.items
    (g.R.Rows.tells.end c.args.config.now c.args.symbol c.args.book.now.journal) to c.in_ok-push_end.ensures.text c.in-Ok.ensures.text

pub returns-in-Err-clause-text : goal.returns-in-Err-clause-text
returns-in-Err-clause-text g c =
    let held = c.args.self.now.lines.bytes.items in
    let to : Output = record { told = g.K.Sink.told c.put_piece.new.self.out; held = c.put_piece.new.self.bytes.items } in
    begins_pushed (g.K.Sink.told c.args.self.now.lines.out) held c.push_end.new.out.items
    (g.R.Rows.tells.end c.args.config.now c.args.symbol c.args.book.now.journal) to c.in_ok-push_end.ensures.text c.in-Err.ensures.text

pub returns-in-Err-clause-cause : goal.returns-in-Err-clause-cause
returns-in-Err-clause-cause g c = record { later = c.in-Err.ensures.cause.later; cause = λ _. c.in-Err.ensures.cause.failed }
