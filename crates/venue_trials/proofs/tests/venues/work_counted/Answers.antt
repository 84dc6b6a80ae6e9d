-- The floor's mark says which gates its seats are of, and their parts.
use Rattle.std.proofs.Common.{ap, ◌∙◌}
use Rattle.venue_core.specs.Marks.{mark_of}
use Rattle.venue_core.specs.SeatLaws.{same_mark_gates, same_mark_parts}
use Rattle.venue_core.specs.Venues.{VenueId}
use Rattle.venue_trials.proofs.tests.venues.work_counted.Goals as goal

pub returns-clause-seats : goal.returns-clause-seats
returns-clause-seats g c =
    let same = ap (λ (venue : VenueId). mark_of venue c.args.share.floor.seats) c.requires.same in
    same_mark_gates c.submit_all-recorded.new.floor.venue.now c.args.venue.now c.submit_all-recorded.new.floor.seats c.args.share.floor.seats
    (c.submit_all-recorded.ensures ∙ same) c.requires.seats

pub returns-clause-parts : goal.returns-clause-parts
returns-clause-parts g c =
    let same = ap (λ (venue : VenueId). mark_of venue c.args.share.floor.seats) c.requires.same in
    same_mark_parts c.submit_all-recorded.new.floor.venue.now c.args.venue.now 1 c.submit_all-recorded.new.floor.seats c.args.share.floor.seats
    (c.submit_all-recorded.ensures ∙ same) c.requires.parts
