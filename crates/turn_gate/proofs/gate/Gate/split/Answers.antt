-- The split keeps the rule.
use Rattle.std.proofs.Common.{rules, ◌≡◌, [], ◌∷◌, ap, arith}
use Rattle.turn_gate.proofs.AtRest.{at_rest, state_is}
use Rattle.turn_gate.proofs.SeatSteps.{splits}
use Rattle.turn_gate.specs.Seats.{SeatState}
use Rattle.turn_gate.proofs.gate.Gate.split.Goals as goal

pub split_seat-new-requires : goal.split_seat-new-requires
split_seat-new-requires g c =
    let only : c.seat.inside.badge.views ≡ c.into_seat-table_seat.result.me.0 ∷ [] = (cc) in
    let r = at_rest c.seat.inside.badge.views c.into_seat-table_seat.result.me.0 c.seat.invariant only in
    let p = ap (λ (p : SeatState). p.part) (state_is _ c.seat.inside.badge.views c.into_seat-table_seat.result.me.0 _ c.seat.view_is only) in
    (search rules, search rules, splits _ _ _ _ _ _ (omega arith) r.opening r.history)
