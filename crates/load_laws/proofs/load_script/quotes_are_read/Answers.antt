use Rattle.load_laws.proofs.Reading as proved
use Rattle.load_laws.proofs.load_script.quotes_are_read.Goals as goal

pub returns : goal.returns
returns c = proved.quotes_are_read
