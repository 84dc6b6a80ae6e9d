use Rattle.message_laws.proofs.Stepping as proved
use Rattle.message_laws.proofs.sessions.expected_stays_or_rises.Goals as goal

pub returns : goal.returns
returns c = proved.expected_stays_or_rises
