use Rattle.std.proofs.Common.{rules}
use Rattle.session_core.specs.Frames.{new_frames}
use Rattle.session_core.specs.Machine.{on_send}
use Rattle.session_core.proofs.session.Session.send.Goals as goal

pub returns-clause-machine : goal.returns-clause-machine
unfolding on_send new_frames
returns-clause-machine c = search rules
