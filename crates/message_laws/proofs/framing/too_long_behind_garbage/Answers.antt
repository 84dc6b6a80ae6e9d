use Rattle.message_laws.proofs.Garbage as proved
use Rattle.message_laws.proofs.framing.too_long_behind_garbage.Goals as goal

pub returns : goal.returns
returns c = proved.too_long_behind_garbage
