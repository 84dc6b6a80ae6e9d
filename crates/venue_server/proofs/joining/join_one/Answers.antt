-- The seats that were joined have their parts and the task's.
use Rattle.std.proofs.Common.{◌+◌, subst, sym, ◌∙◌}
use Rattle.venue_core.specs.Joining.{HaveParts}
use Rattle.venue_core.specs.SeatLaws.{parts_joined}
use Rattle.venue_server.proofs.joining.join_one.Goals as goal

pub returns-clause-parts : goal.returns-clause-parts
returns-clause-parts g c parts has =
    let one = c.requires.other in
    subst (HaveParts (parts + 1)) (sym c.join.ensures.joined)
    (parts_joined parts 1 c.args.seats.now c.args.one.floor.seats (c.requires.seats ∙ sym one.are) has one.have)
