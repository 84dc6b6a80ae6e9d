use Rattle.std.proofs.Common.{rules}
use Rattle.peg_price.proofs.peg.has_reference.Goals as goal

pub returns-then-is_locked : goal.returns-then-is_locked
returns-then-is_locked c = search rules
