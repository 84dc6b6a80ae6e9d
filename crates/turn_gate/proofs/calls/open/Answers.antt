-- The first seat may take the empty slot.
use Rattle.std.proofs.Common.{◌<◌, rules, ap, sym, subst, arith}
use Rattle.turn_gate.specs.Steps.{SeatAndSlot}
use Rattle.turn_gate.proofs.TurnSteps.{takes_empty}
use Rattle.turn_gate.proofs.calls.open.Goals as goal

pub load-requires : goal.load-requires
load-requires g c = let f = c.requires.first in (
  search rules,
  search rules,
  takes_empty _ _ _ _ _ _ _ (ap (λ (m : SeatAndSlot g.row.V.Denot). m.0.history) f) (ap (λ (m : SeatAndSlot g.row.V.Denot). m.0.opening) f)
      (ap (λ (m : SeatAndSlot g.row.V.Denot). m.1) f) (subst (λ (m : SeatAndSlot g.row.V.Denot). 0 < m.0.part) (sym f) (omega arith)),
)
