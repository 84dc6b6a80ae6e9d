use Rattle.message_laws.proofs.Garbage as proved
use Rattle.message_laws.proofs.framing.frame_behind_garbage.Goals as goal

pub returns : goal.returns
returns c = proved.frame_behind_garbage
