-- So many seats of each gate were split off, of one part each.
use Rattle.std.proofs.Common.{◌≡◌, ◌-◌, length}
use Rattle.std.specs.List.{All}
use Rattle.turn_gate.specs.Rule.{whole}
use Rattle.venue_core.specs.Joining.{HaveParts}
use Rattle.venue_core.specs.Venues.{AreSeatsOf}
use Rattle.venue_trials.proofs.tests.venues.shares_of.Given as goal

abbrev pub invariant-loop-i : goal.invariant-loop-i
invariant-loop-i g l =
    AreSeatsOf l.venue l.seats × HaveParts (whole - l.i) l.seats × (length l.shares.items ≡ l.i)
    × All (λ share. (share.floor.venue.now ≡ l.venue) × AreSeatsOf l.venue share.floor.seats × HaveParts 1 share.floor.seats) l.shares.items
