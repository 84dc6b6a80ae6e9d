-- A session that is over stays as it is.
use Rattle.message_laws.proofs.Ends as ends
use Rattle.message_laws.proofs.sessions.ended_stays.Goals as goal

pub returns : goal.returns
returns c = ends.ended_stays
