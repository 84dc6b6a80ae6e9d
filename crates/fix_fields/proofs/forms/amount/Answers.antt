use Rattle.std.proofs.Common.{arith}
use Rattle.std.proofs.lemmas.Grind.{common_steps}
use Rattle.fix_fields.specs.Forms.{amount_of}
use Rattle.fix_fields.proofs.forms.amount.Goals as goal

pub returns-then-bytes-eq45 : goal.returns-then-bytes-eq45
unfolding amount_of
returns-then-bytes-eq45 c = grind (arith, common_steps)
