use Rattle.message_laws.proofs.FirstFaults as proved
use Rattle.message_laws.proofs.faults.fault_is_first.Goals as goal

pub returns : goal.returns
returns c = proved.fault_is_first
