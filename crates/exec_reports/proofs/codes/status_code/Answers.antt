use Rattle.std.proofs.Common.{rules}
use Rattle.exec_reports.specs.Codes.{status_code}
use Rattle.exec_reports.proofs.codes.status_code.Goals as goal

pub returns-in-PartiallyFilled : goal.returns-in-PartiallyFilled
unfolding status_code
returns-in-PartiallyFilled c = search rules
