-- The first seats are split, and the new ones are their parts.
use Rattle.std.proofs.Common.{◌≡◌, map, take, length}
use Rattle.std.specs.Vec.{vec_capacity, vec_len}
use Rattle.venue_core.specs.Joining.{split_off}
use Rattle.venue_core.proofs.Splits.{first_split}
use Rattle.venue_core.proofs.calls.split.Given as goal

abbrev pub invariant-loop-i : goal.invariant-loop-i
invariant-loop-i g l =
    (l.seats.items ≡ first_split l.i l.fn.seats.items)
    × (l.new.items ≡ map split_off (take l.i l.fn.seats.items))
    × (vec_len l.new ≡ l.i)
    × (vec_capacity l.new ≡ length l.gates.items)
