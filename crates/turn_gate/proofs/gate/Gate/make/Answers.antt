-- The rule holds at the opening.
use Rattle.turn_gate.proofs.Ends.{begins}
use Rattle.turn_gate.proofs.gate.Gate.make.Goals as goal

pub vacant-made-requires : goal.vacant-made-requires
vacant-made-requires g c = begins _ _ _ _
