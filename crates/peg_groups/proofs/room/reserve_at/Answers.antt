use Rattle.std.proofs.Common.{refl}
use Rattle.peg_groups.proofs.room.reserve_at.Goals as goal

pub returns : goal.returns
returns c = record { grown = (_, _, _, c.pair_mut-group.ensures.value, refl, record { tree = refl; moves = c.reserve.ensures.same; room = c.reserve.ensures.kept }, c.reserve.ensures.room) }
