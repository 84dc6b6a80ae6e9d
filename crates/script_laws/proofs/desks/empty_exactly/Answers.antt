use Rattle.script_laws.proofs.Sending as sending
use Rattle.script_laws.proofs.desks.empty_exactly.Goals as goal

pub returns : goal.returns
returns c = sending.empty_exactly
