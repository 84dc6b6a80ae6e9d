use Rattle.load_laws.proofs.Reading as proved
use Rattle.load_laws.proofs.load_script.header_is_read.Goals as goal

pub returns : goal.returns
returns c = proved.header_is_read
