-- The turn is that of what was pulled.
use Rattle.serve_core.proofs.serving.take_turn.Goals as goal

pub returns-in-Bytes-clause-took : goal.returns-in-Bytes-clause-took
returns-in-Bytes-clause-took g c = rw c.in-Bytes.is c.on_piece.ensures.took

pub returns-in-Quiet-clause-took : goal.returns-in-Quiet-clause-took
returns-in-Quiet-clause-took g c = rw c.in-Quiet.is c.on_quiet.ensures.took
