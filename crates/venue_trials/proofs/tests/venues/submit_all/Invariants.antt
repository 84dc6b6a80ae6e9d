-- The floor's mark stays.
use Rattle.std.proofs.Common.{◌≡◌}
use Rattle.venue_trials.proofs.tests.venues.submit_all.Given as goal

abbrev pub invariant-loop-number : goal.invariant-loop-number
invariant-loop-number g l = g.F.Floor.mark l.floor ≡ g.F.Floor.mark l.fn.floor
