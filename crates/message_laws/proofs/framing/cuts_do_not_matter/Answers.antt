use Rattle.message_laws.proofs.Garbage as proved
use Rattle.message_laws.proofs.framing.cuts_do_not_matter.Goals as goal

pub returns : goal.returns
returns c = proved.cuts_do_not_matter
