-- The seats stay those of the venue's gates.
use Rattle.std.proofs.Common.{List, map, ap, ◌∙◌}
use Rattle.turn_gate.specs.Seats.{SeatState}
use Rattle.venue_core.specs.SeatLaws.{gates_after_split, gates_split_off}
use Rattle.venue_core.proofs.venue.Venue.split.Goals as goal

pub returns-clause-seats : goal.returns-clause-seats
returns-clause-seats g c =
    let gates = λ (seats : List SeatState). map (λ (seat : SeatState). seat.gate) seats in
    ap gates c.in_ok-list.ensures.old ∙ (gates_after_split c.seats.inside.list.items ∙ (ap gates c.seats.view_is ∙ c.requires.seats))

pub returns-clause-new_seats : goal.returns-clause-new_seats
returns-clause-new_seats g c =
    let gates = λ (seats : List SeatState). map (λ (seat : SeatState). seat.gate) seats in
    ap gates c.in_ok-list.ensures.new ∙ (gates_split_off c.seats.inside.list.items ∙ (ap gates c.seats.view_is ∙ c.requires.seats))
