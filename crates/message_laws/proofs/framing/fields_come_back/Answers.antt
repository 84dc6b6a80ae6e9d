use Rattle.message_laws.proofs.Heads as proved
use Rattle.message_laws.proofs.framing.fields_come_back.Goals as goal

pub returns : goal.returns
returns c = proved.fields_come_back
