use Rattle.std.proofs.Common.{rules}
use Rattle.match_core.proofs.settling.put_filled_back.Goals as goal

pub put_back-requires-clause-fits : goal.put_back-requires-clause-fits
put_back-requires-clause-fits g c = search rules

pub returns-then-row-gt0-clause-put : goal.returns-then-row-gt0-clause-put
returns-then-row-gt0-clause-put g c = search rules
