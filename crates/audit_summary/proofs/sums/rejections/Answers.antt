use Rattle.std.proofs.Common.{rules}
use Rattle.audit_summary.proofs.sums.rejections.Goals as goal

pub loop-place-preserved : goal.loop-place-preserved
loop-place-preserved c = search rules
