use Rattle.std.proofs.Common.{rules}
use Rattle.exec_reports.specs.Codes.{refuse_reason}
use Rattle.exec_reports.proofs.codes.refuse_reason.Goals as goal

pub returns-in_default : goal.returns-in_default
unfolding refuse_reason
returns-in_default c = search rules
