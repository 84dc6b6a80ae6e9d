use Rattle.message_laws.proofs.Turning as proved
use Rattle.message_laws.proofs.sessions.order_is_handed_out.Goals as goal

pub returns : goal.returns
returns c = proved.order_is_handed_out
