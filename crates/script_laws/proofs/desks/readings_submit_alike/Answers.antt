use Rattle.script_laws.proofs.DeskAlike.{reading_submits-alike}
use Rattle.script_laws.proofs.desks.readings_submit_alike.Goals as goal

pub returns : goal.returns
returns c = reading_submits-alike
