use Rattle.std.proofs.Common.{arith}
use Rattle.std.proofs.lemmas.Grind.{common_steps}
use Rattle.drop_copy.specs.Copies.{copy_body}
use Rattle.drop_copy.proofs.bodies.push_copy_body.Goals as goal

pub returns : goal.returns
unfolding copy_body
returns c = grind (arith, common_steps)
