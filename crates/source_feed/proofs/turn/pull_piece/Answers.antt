-- What a pull gave.
use Rattle.source_feed.proofs.Links.{gave_bytes, gave_quiet, gave_end, gave_failed}
use Rattle.source_feed.proofs.turn.pull_piece.Goals as goal

pub returns-in-Bytes-clause-gave : goal.returns-in-Bytes-clause-gave
returns-in-Bytes-clause-gave g c =
    gave_bytes (g.K.Link.told c.args.link.now) (g.K.Link.told c.pull.new.self) c.in-Ok.pulled c.in-Bytes.count c.pull.new.buffer c.in-Bytes.is c.in-Ok.ensures.answer

pub returns-in-Quiet-clause-gave : goal.returns-in-Quiet-clause-gave
returns-in-Quiet-clause-gave g c =
    gave_quiet (g.K.Link.told c.args.link.now) (g.K.Link.told c.pull.new.self) c.in-Ok.pulled c.pull.new.buffer c.in-Quiet.is c.in-Ok.ensures.answer

pub returns-in-End-clause-none : goal.returns-in-End-clause-none
returns-in-End-clause-none g c =
    gave_end (g.K.Link.told c.args.link.now) (g.K.Link.told c.pull.new.self) c.in-Ok.pulled c.pull.new.buffer c.in-End.is c.in-Ok.ensures.answer

pub returns-in-Err-clause-none : goal.returns-in-Err-clause-none
returns-in-Err-clause-none g c =
    gave_failed (g.K.Link.told c.args.link.now) (g.K.Link.told c.pull.new.self) _ c.pull.new.buffer c.in-Err.ensures.answer
