use Rattle.message_laws.proofs.Turning as proved
use Rattle.message_laws.proofs.sessions.reject_is_alone.Goals as goal

pub returns : goal.returns
returns c = proved.reject_is_alone
