-- The seats gain the parts of all seats that are joined into them.
use Rattle.std.proofs.Common.{◌≡◌, ◌-◌, ◌<◌, length}
use Rattle.std.specs.List.{All}
use Rattle.turn_gate.specs.Rule.{whole}
use Rattle.venue_core.specs.Joining.{HaveParts}
use Rattle.venue_core.specs.Venues.{AreSeatsOf}
use Rattle.venue_trials.proofs.tests.venues.join_all.Given as goal

abbrev pub invariant-loop-worked : goal.invariant-loop-worked
invariant-loop-worked g l =
    AreSeatsOf l.venue l.seats
    × HaveParts (whole - length l.worked-iterator.rest.items) l.seats
    × (length l.worked-iterator.rest.items < 1000)
    × (length l.worked-iterator.rest.items ≡ l.worked-iterator.rest.len)
    × All (λ worked. AreSeatsOf l.venue worked.floor.seats × HaveParts 1 worked.floor.seats) l.worked-iterator.rest.items
