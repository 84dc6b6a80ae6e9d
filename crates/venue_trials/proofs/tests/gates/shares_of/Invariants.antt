-- So many seats of one part each were split off.
use Rattle.std.proofs.Common.{◌≡◌, ◌+◌, length}
use Rattle.std.specs.List.{All}
use Rattle.venue_trials.proofs.tests.gates.shares_of.Given as goal

abbrev pub invariant-loop-i : goal.invariant-loop-i
invariant-loop-i l =
    (l.seat.gate ≡ l.fn.seat.gate) × (l.seat.part + l.i ≡ l.fn.seat.part) × (length l.shares.items ≡ l.i)
    × All (λ share. (share.seat.gate ≡ l.fn.seat.gate) × (share.seat.part ≡ 1)) l.shares.items
