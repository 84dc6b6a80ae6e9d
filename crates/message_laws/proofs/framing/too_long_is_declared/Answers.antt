use Rattle.message_laws.proofs.Garbage as proved
use Rattle.message_laws.proofs.framing.too_long_is_declared.Goals as goal

pub returns : goal.returns
returns c = proved.too_long_is_declared
