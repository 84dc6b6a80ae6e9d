use Rattle.std.proofs.Common.{arith}
use Rattle.std.proofs.lemmas.Grind.{common_steps}
use Rattle.audit_order.specs.Lives.{line_of, told_line}
use Rattle.audit_order.proofs.life.push_report.Goals as goal

pub returns : goal.returns
unfolding line_of told_line
returns c = grind (arith, common_steps)
