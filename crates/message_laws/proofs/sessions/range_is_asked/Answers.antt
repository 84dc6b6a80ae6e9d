use Rattle.message_laws.proofs.Turning as proved
use Rattle.message_laws.proofs.sessions.range_is_asked.Goals as goal

pub returns : goal.returns
returns c = proved.range_is_asked
