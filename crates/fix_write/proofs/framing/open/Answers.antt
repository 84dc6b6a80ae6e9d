use Rattle.std.proofs.Common.{rules}
use Rattle.fix_write.specs.Framing.{opening}
use Rattle.fix_write.proofs.framing.open.Goals as goal

pub returns : goal.returns
unfolding opening
returns c = search rules
