use Rattle.std.proofs.Common.{arith}
use Rattle.std.proofs.lemmas.Grind.{common_steps}
use Rattle.fix_fields.specs.Content.{behind_first_end}
use Rattle.fix_fields.proofs.frame.front_of.Goals as goal

pub returns-then-bytes-place-eq-SOH : goal.returns-then-bytes-place-eq-SOH
unfolding behind_first_end
returns-then-bytes-place-eq-SOH c = grind (arith, common_steps)
