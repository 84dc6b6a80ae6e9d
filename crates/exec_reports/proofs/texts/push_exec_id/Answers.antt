use Rattle.std.proofs.Common.{arith}
use Rattle.std.proofs.lemmas.Grind.{common_steps}
use Rattle.exec_reports.specs.Texts.{exec_id}
use Rattle.exec_reports.proofs.texts.push_exec_id.Goals as goal

pub returns : goal.returns
unfolding exec_id
returns c = grind (arith, common_steps)
