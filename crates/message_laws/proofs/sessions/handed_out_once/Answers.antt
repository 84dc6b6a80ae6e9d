use Rattle.message_laws.proofs.Stepping as proved
use Rattle.message_laws.proofs.sessions.handed_out_once.Goals as goal

pub returns : goal.returns
returns c = proved.handed_out_once
