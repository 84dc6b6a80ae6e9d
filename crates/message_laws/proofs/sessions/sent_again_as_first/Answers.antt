use Rattle.message_laws.proofs.Remembering as proved
use Rattle.message_laws.proofs.sessions.sent_again_as_first.Goals as goal

pub returns : goal.returns
returns c = proved.sent_again_as_first
