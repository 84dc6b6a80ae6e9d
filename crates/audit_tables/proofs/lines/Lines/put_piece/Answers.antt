use Rattle.std.proofs.Common.{[], append-nil, sym}
use Rattle.listing.proofs.Handed.{hands_none}
use Rattle.audit_tables.proofs.lines.Lines.put_piece.Goals as goal

pub returns-then-len-lt-PIECE-clause-text : goal.returns-then-len-lt-PIECE-clause-text
returns-then-len-lt-PIECE-clause-text g c =
    let held = c.args.self.now.bytes.items in
    hands_none (g.K.Sink.told c.args.self.now.out) held held [] (sym (append-nil held))

pub returns-clause-text : goal.returns-clause-text
returns-clause-text g c = c.put_all.ensures.text

pub returns-clause-cause : goal.returns-clause-cause
returns-clause-cause g c = c.put_all.ensures.cause
