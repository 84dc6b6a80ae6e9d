-- The seat gains the part of each seat that is joined into it.
use Rattle.std.proofs.Common.{◌≡◌, ◌+◌, length}
use Rattle.std.specs.List.{All}
use Rattle.venue_trials.proofs.tests.gates.join_all.Given as goal

abbrev pub invariant-loop-other : goal.invariant-loop-other
invariant-loop-other l =
    (l.seat.gate ≡ l.fn.seat.gate)
    × (l.seat.part + length l.other-iterator.rest.items ≡ l.fn.seat.part + length l.fn.others.items)
    × (length l.other-iterator.rest.items ≡ l.other-iterator.rest.len)
    × All (λ other. (other.0.gate ≡ l.gate) × (other.0.part ≡ 1)) l.other-iterator.rest.items
