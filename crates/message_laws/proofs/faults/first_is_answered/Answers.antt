use Rattle.message_laws.proofs.FirstFaults as proved
use Rattle.message_laws.proofs.faults.first_is_answered.Goals as goal

pub returns : goal.returns
returns c = proved.first_is_answered
