-- The value is in its slot, and it is the one that comes back.
use Rattle.turn_gate.proofs.Ends.{closes, closed_is, closed_not}
use Rattle.turn_gate.proofs.calls.gather.Goals as goal

pub unreachable-requires : goal.unreachable-requires
unreachable-requires g c =
    closed_not _ _ _ _ _ _ (closes _ _ _ _ c.args.seat.id c.args.seat.me.0 _ _ c.requires.part c.requires.no_turn c.close_with-closed.ensures.values.2) c.in-None.ensures.value

pub returns : goal.returns
returns g c =
    closed_is _ _ _ _ _ _ _ (closes _ _ _ _ c.args.seat.id c.args.seat.me.0 _ _ c.requires.part c.requires.no_turn c.close_with-closed.ensures.values.2) c.in-Some.ensures.value
