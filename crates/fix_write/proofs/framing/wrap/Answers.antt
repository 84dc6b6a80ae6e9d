use Rattle.std.proofs.Common.{rules}
use Rattle.fix_write.specs.Framing.{wrapped}
use Rattle.fix_write.proofs.framing.wrap.Goals as goal

pub returns : goal.returns
unfolding wrapped
returns c = search rules
