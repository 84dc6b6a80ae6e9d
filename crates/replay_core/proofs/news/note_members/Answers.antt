use Rattle.std.proofs.Common.{arith}
use Rattle.std.proofs.lemmas.Grind.{common_steps}
use Rattle.replay_core.proofs.news.note_members.Goals as goal

pub loop-report-preserved : goal.loop-report-preserved
loop-report-preserved c = grind (arith, common_steps)
