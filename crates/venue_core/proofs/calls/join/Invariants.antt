-- The others so far are joined into the first seats.
use Rattle.std.proofs.Common.{◌≡◌, ◌++◌, length}
use Rattle.venue_core.proofs.Joins.{AreJoined}
use Rattle.venue_core.proofs.calls.join.Given as goal

abbrev pub invariant-loop-one : goal.invariant-loop-one
invariant-loop-one g l =
    AreJoined l.initial.seats.items l.yielded l.seats.items
    × (l.i ≡ length l.yielded)
    × (l.fn.other.items ≡ l.yielded ++ l.one-iterator.rest.items)
    × (length l.one-iterator.rest.items ≡ l.one-iterator.rest.len)
