-- The slot that was taken is in front.
use Rattle.std.proofs.Common.{rules, Some}
use Rattle.turn_gate.proofs.AtRest.{front}
use Rattle.turn_gate.proofs.turn.lift.Goals as goal

pub exchange-requires : goal.exchange-requires
exchange-requires g c = let r = c.requires.full in (search rules, (Some r.0, front c.args.seat.now.me.1 (0, Some r.0) r.1))
