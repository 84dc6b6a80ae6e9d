-- What is sent changes nothing of what is received.
use Rattle.session_core.specs.AlikeLaws as laws
use Rattle.message_laws.proofs.sessions.sending_is_alike.Goals as goal

pub returns : goal.returns
returns c = laws.sending_is_alike
