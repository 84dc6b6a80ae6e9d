use Rattle.std.proofs.Common.{rules}
use Rattle.exec_reports.specs.Parts.{standing_in}
use Rattle.exec_reports.proofs.parts.standing_of.Goals as goal

pub returns-in-Order-default-Accepted : goal.returns-in-Order-default-Accepted
unfolding standing_in
returns-in-Order-default-Accepted c = search rules
