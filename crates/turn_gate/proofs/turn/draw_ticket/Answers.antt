-- The draw keeps the rule.
use Rattle.std.proofs.Common.{rules, ◌<◌, ap, ◌∙◌, sym, subst, arith}
use Rattle.turn_gate.proofs.TurnSteps.{draws}
use Rattle.turn_gate.specs.Steps.{SeatAndSlot}
use Rattle.turn_gate.proofs.turn.draw_ticket.Goals as goal

pub compare_exchange-found-requires : goal.compare_exchange-found-requires
compare_exchange-found-requires g c =
    let same = c.loop.invariant.2 in
    let r = c.requires.at_rest in (
      search rules,
      search rules,
      draws _ _ _ _ _ _ _ _ (ap (λ (m : SeatAndSlot g.row.V.Denot). m.0.ticket) same ∙ r.ticket) (ap (λ (m : SeatAndSlot g.row.V.Denot). m.0.history) same ∙ r.history)
          (subst (λ (m : SeatAndSlot g.row.V.Denot). 0 < m.0.part) (sym same) r.part) (omega arith),
    )
