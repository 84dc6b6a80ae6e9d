use Rattle.load_laws.proofs.Reading as proved
use Rattle.load_laws.proofs.load_script.messages_are_frames.Goals as goal

pub returns : goal.returns
returns c = proved.messages_are_frames
