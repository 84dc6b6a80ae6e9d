use Rattle.std.proofs.Common.{rules}
use Rattle.session_core.specs.Resent.{old_frame}
use Rattle.session_core.proofs.resent.old_frame.Goals as goal

pub returns : goal.returns
unfolding old_frame
returns c = search rules
