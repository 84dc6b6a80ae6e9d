-- The seat stays one of the gate, with its part.
use Rattle.std.proofs.Common.{◌≡◌}
use Rattle.venue_trials.proofs.tests.gates.submit_counted.Given as goal

abbrev pub invariant-loop-number : goal.invariant-loop-number
invariant-loop-number g l = (l.seat.gate ≡ l.initial.seat.gate) × (l.seat.part ≡ l.initial.seat.part)
