use Rattle.std.proofs.Common.{rules}
use Rattle.peg_price.proofs.peg.row_value.Goals as goal

pub returns : goal.returns
returns c = search rules
