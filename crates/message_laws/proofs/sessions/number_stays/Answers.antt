-- The number that is to come is raised by the message of that number alone.
use Rattle.message_laws.proofs.Expecting as expecting
use Rattle.message_laws.proofs.sessions.number_stays.Goals as goal

pub returns : goal.returns
returns c = expecting.number_stays
