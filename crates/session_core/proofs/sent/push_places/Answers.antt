-- One more place and its moment.
use Rattle.std.proofs.Common.{◌∙◌, arith}
use Rattle.session_core.proofs.SentPlaces.{place_step, moment_step}
use Rattle.session_core.proofs.sent.push_places.Goals as goal

pub loop-i-preserved : goal.loop-i-preserved
loop-i-preserved c =
    let place = c.push_reserved.ensures in
    let moment = c.push_reserved-in-loop-i.ensures in
    let before = c.loop-i.invariant in
    record {
      places =
          place_step c.loop-i.places.items c.push_reserved.new.self.items c.args.first c.loop-i.i c.args.count c.loop-i-test.true place.items ∙ before.places;
      moments =
          moment_step c.loop-i.moments.items c.push_reserved-in-loop-i.new.self.items _ c.loop-i.i c.args.count c.loop-i-test.true moment.items ∙ before.moments;
      room = omega (arith, c.loop-i-test.true, before.room, place.len, place.capacity);
      room_of_moments = omega (arith, c.loop-i-test.true, before.room_of_moments, moment.len, moment.capacity);
    }
