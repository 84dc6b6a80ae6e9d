use Rattle.script_laws.proofs.DeskAlike.{frames_submit-alike}
use Rattle.script_laws.proofs.desks.frames_submit_alike.Goals as goal

pub returns : goal.returns
returns c = frames_submit-alike
