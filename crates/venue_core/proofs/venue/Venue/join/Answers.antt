-- The seats stay those of the venue's gates.
use Rattle.std.proofs.Common.{List, map, ap, ◌∙◌}
use Rattle.turn_gate.specs.Seats.{SeatState}
use Rattle.venue_core.specs.SeatLaws.{gates_joined}
use Rattle.venue_core.proofs.venue.Venue.join.Goals as goal

pub returns-clause-seats : goal.returns-clause-seats
returns-clause-seats g c =
    let gates = λ (seats : List SeatState). map (λ (seat : SeatState). seat.gate) seats in
    ap gates c.join.ensures.seats ∙ (gates_joined c.seats.inside.list.items c.other.inside.list.items ∙ (ap gates c.seats.view_is ∙ c.requires.seats))
