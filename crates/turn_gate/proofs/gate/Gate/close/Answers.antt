-- The seat has all parts, and no turn.
use Rattle.std.proofs.Common.{◌≡◌, [], ◌∷◌, ap, ◌∙◌}
use Rattle.turn_gate.proofs.AtRest.{at_rest, state_is}
use Rattle.turn_gate.specs.Seats.{SeatState}
use Rattle.turn_gate.proofs.gate.Gate.close.Goals as goal

pub gather-requires-clause-part : goal.gather-requires-clause-part
gather-requires-clause-part g c =
    let only : c.seat.inside.badge.views ≡ c.into_seat.result.me.0 ∷ [] = (cc) in
    ap (λ (q : SeatState). q.part) (state_is _ c.seat.inside.badge.views c.into_seat.result.me.0 _ c.seat.view_is only) ∙ c.requires.part

pub gather-requires-clause-no_turn : goal.gather-requires-clause-no_turn
gather-requires-clause-no_turn g c =
    let only : c.seat.inside.badge.views ≡ c.into_seat.result.me.0 ∷ [] = (cc) in
    (at_rest c.seat.inside.badge.views c.into_seat.result.me.0 c.seat.invariant only).history
