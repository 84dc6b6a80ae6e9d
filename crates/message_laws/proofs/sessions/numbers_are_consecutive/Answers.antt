use Rattle.message_laws.proofs.Numbering as proved
use Rattle.message_laws.proofs.sessions.numbers_are_consecutive.Goals as goal

pub returns : goal.returns
returns c = proved.numbers_are_consecutive
