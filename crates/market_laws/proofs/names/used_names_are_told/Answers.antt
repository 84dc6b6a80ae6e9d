use Rattle.market_laws.proofs.Using.{used_names_are_told}
use Rattle.market_laws.proofs.names.used_names_are_told.Goals as goal

pub returns : goal.returns
returns c = used_names_are_told
