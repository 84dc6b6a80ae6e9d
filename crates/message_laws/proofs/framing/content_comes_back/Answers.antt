use Rattle.message_laws.proofs.Contents as proved
use Rattle.message_laws.proofs.framing.content_comes_back.Goals as goal

pub returns : goal.returns
returns c = proved.content_comes_back
