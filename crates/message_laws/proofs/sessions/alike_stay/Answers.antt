-- Alike sessions go on so.
use Rattle.session_core.specs.AlikeLaws as laws
use Rattle.message_laws.proofs.sessions.alike_stay.Goals as goal

pub returns : goal.returns
returns c = laws.alike_stay
