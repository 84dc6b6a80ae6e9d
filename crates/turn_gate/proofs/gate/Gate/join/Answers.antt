-- The join and the comparison after it keep the rule.
use Rattle.std.proofs.Common.{rules, ◌≡◌, [], ◌∷◌, ◌<◌, sym, subst, arith}
use Rattle.turn_gate.proofs.AtRest.{at_rest}
use Rattle.turn_gate.proofs.SeatSteps.{joins, compares}
use Rattle.turn_gate.specs.Steps.{SeatAndSlot}
use Rattle.turn_gate.proofs.gate.Gate.join.Goals as goal

pub join_seat-requires : goal.join_seat-requires
join_seat-requires g c =
    let only : c.seat.inside.badge.views ≡ c.into_seat-table_seat.result.me.0 ∷ [] = (cc) in
    let only' : c.other.inside.badge.views ≡ c.into_seat.result.me.0 ∷ [] = (cc) in
    let r = at_rest c.seat.inside.badge.views c.into_seat-table_seat.result.me.0 c.seat.invariant only in
    let q = at_rest c.other.inside.badge.views c.into_seat.result.me.0 c.other.invariant only' in
    (search rules, search rules, search rules, search rules, joins _ _ _ _ _ _ _ _ r.part q.part r.ticket r.history q.history)

pub load-requires : goal.load-requires
load-requires g c =
    let only : c.seat.inside.badge.views ≡ c.into_seat-table_seat.result.me.0 ∷ [] = (cc) in
    let r = at_rest c.seat.inside.badge.views c.into_seat-table_seat.result.me.0 c.seat.invariant only in (
      search rules,
      search rules,
      compares _ _ _ _ _ _ _ (subst (λ (m : SeatAndSlot g.row.V.Denot). 0 < m.0.part) (sym c.join_seat.ensures.2) (omega (arith, r.part))),
    )
