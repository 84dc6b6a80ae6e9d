-- The seats of the first tasks were joined.
use Rattle.std.proofs.Common.{◌≡◌, ◌≤◌, ◌+◌, ◌-◌, ◌++◌, ◌∷◌, [], length, map}
use Rattle.std.specs.List.{All}
use Rattle.turn_gate.specs.Rule.{whole}
use Rattle.venue_core.specs.Joining.{HaveParts}
use Rattle.venue_core.specs.Venues.{AreSeatsOf}
use Rattle.venue_server.specs.Outcomes.{first_wrong}
use Rattle.venue_server.specs.Seating.{HasSeats}
use Rattle.venue_server.proofs.joining.join_links.Given as goal

abbrev pub invariant-loop-one : goal.invariant-loop-one
invariant-loop-one g l =
    AreSeatsOf l.venue l.seats
    × HaveParts (whole - (2 + length l.one-iterator.rest.items)) l.seats
    × (length l.one-iterator.rest.items ≤ 64)
    × (length l.one-iterator.rest.items ≡ l.one-iterator.rest.len)
    × All (λ one. HasSeats l.venue 1 one.floor.seats) l.one-iterator.rest.items
    × (l.fn.links.items ≡ l.yielded ++ l.one-iterator.rest.items)
    × (first_wrong (l.outcome ∷ []) ≡ first_wrong (map (λ one. one.outcome) l.yielded))
