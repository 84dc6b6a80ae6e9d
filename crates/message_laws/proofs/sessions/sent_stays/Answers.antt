-- A session that is up forgets nothing.
use Rattle.message_laws.proofs.Keeping as keeping
use Rattle.message_laws.proofs.sessions.sent_stays.Goals as goal

pub returns : goal.returns
returns c = keeping.sent_stays
