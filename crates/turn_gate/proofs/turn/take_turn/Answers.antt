-- The look at the ticket that is served keeps the rule.
use Rattle.std.proofs.Common.{◌<◌, rules, ap, ◌∙◌, sym, subst}
use Rattle.turn_gate.proofs.TurnSteps.{takes_turn}
use Rattle.turn_gate.specs.Steps.{SeatAndSlot}
use Rattle.turn_gate.proofs.turn.take_turn.Goals as goal

pub load-served-requires : goal.load-served-requires
load-served-requires g c =
    let same = c.loop.invariant.2 in
    let r = c.requires in (
      search rules,
      search rules,
      takes_turn _ _ _ _ _ _ _ c.args.ticket (ap (λ (m : SeatAndSlot g.row.V.Denot). m.0.ticket) same ∙ r.ticket) (ap (λ (m : SeatAndSlot g.row.V.Denot). m.0.history) same ∙ r.no_turn)
          (ap (λ (m : SeatAndSlot g.row.V.Denot). m.0.opening) same ∙ r.opened) (ap (λ (m : SeatAndSlot g.row.V.Denot). m.1) same ∙ r.no_slot)
          (subst (λ (m : SeatAndSlot g.row.V.Denot). 0 < m.0.part) (sym same) r.part),
    )

pub lift-requires-clause-full : goal.lift-requires-clause-full
lift-requires-clause-full g c = search rules

pub loop-preserved : goal.loop-preserved
loop-preserved g c = search rules
