-- What the stream says with the piece.
use Rattle.serve_core.proofs.Greetings.{said_at}
use Rattle.serve_core.proofs.serving.hear_piece.Goals as goal

pub returns-clause-said : goal.returns-clause-said
returns-clause-said c =
    said_at c.args.config.now c.args.framer.now.kept c.args.piece.now c.args.bytes.now.items c.hear.result c.requires.heard
    c.hear.ensures.said
