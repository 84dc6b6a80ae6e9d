use Rattle.member_gate.proofs.Joining.{cut_anywhere}
use Rattle.script_laws.proofs.desks.any_cut.Goals as goal

pub returns : goal.returns
returns c = cut_anywhere
