use Rattle.message_laws.proofs.Garbage as proved
use Rattle.message_laws.proofs.framing.frames_come_through.Goals as goal

pub returns : goal.returns
returns c = proved.frames_come_through
