use Rattle.std.proofs.Common.{rules}
use Rattle.exec_reports.specs.Parts.{reason_in}
use Rattle.exec_reports.proofs.parts.reason_of.Goals as goal

pub returns-in-Rejected : goal.returns-in-Rejected
unfolding reason_in
returns-in-Rejected c = search rules
