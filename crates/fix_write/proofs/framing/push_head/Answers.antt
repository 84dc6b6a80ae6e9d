use Rattle.std.proofs.Common.{arith}
use Rattle.std.proofs.lemmas.Grind.{common_steps}
use Rattle.fix_write.specs.Framing.{head_text}
use Rattle.fix_write.proofs.framing.push_head.Goals as goal

pub returns : goal.returns
unfolding head_text
returns c = grind (arith, common_steps)
