-- The pass keeps the rule.
use Rattle.std.proofs.Common.{rules, sym, subst}
use Rattle.turn_gate.proofs.TurnSteps.{passes}
use Rattle.turn_gate.specs.Steps.{SeatAndSlot}
use Rattle.turn_gate.specs.Turns.{HoldsHistory}
use Rattle.turn_gate.proofs.turn.pass_turn.Goals as goal

pub store-requires : goal.store-requires
store-requires g c =
    let r = subst (λ (m : SeatAndSlot g.row.V.Denot). HoldsHistory g.V.Held.journal g.V.Held.limit g.V.Held.setting c.args.ticket m)
    (sym c.take_mark-marked.ensures.same) c.requires.holds in (
      search rules,
      search rules,
      passes _ _ _ _ _ _ _ c.args.ticket r.value r.ticket r.has_turn r.slot r.part r.opening r.limit r.setting,
    )
