use Rattle.std.proofs.Common.{◌≡◌, length, w64, to_z, of_z, rules, arith}
use Rattle.session_core.proofs.SentPlaces.{sent_is, sent_among, sent_each}
use Rattle.session_core.proofs.sent.SentMessages.push_all.Goals as goal

pub invariant_of-self-2 : goal.invariant_of-self-2
invariant_of-self-2 c =
    let inside = c.self.inside in
    let new = c.push_places.new in
    let first : c.in_ok-first.first ≡ length inside.messages = omega (arith, c.in_ok-first.ensures, c.len.ensures.count) in
    let count : c.in_ok-count.count ≡ length c.args.messages.now = omega (arith, c.in_ok-count.ensures, c.len-2.ensures.count) in
    record {
      among =
          sent_among inside.messages c.append.new.self c.args.messages.now inside.places.items c.reserve.new.self.items new.places.items _ _
          c.self.invariant.among c.in_ok-append.ensures.ok c.in_ok-reserve.ensures.items first count c.push_places.ensures.places;
      each =
          sent_each inside.messages c.append.new.self c.args.messages.now inside.moments.items c.reserve-2.new.self.items new.moments.items _ _
          c.self.invariant.each c.in_ok-append.ensures.ok c.in_ok-reserve-2.ensures.items count c.push_places.ensures.moments;
    }

pub returns-clause-ok : goal.returns-clause-ok
returns-clause-ok c =
    let inside = c.self.inside in
    let new = c.push_places.new in
    let passed : to_z w64 (of_z w64 c.args.moment) ≡ c.args.moment = search rules in
    let first : c.in_ok-first.first ≡ length inside.messages = omega (arith, c.in_ok-first.ensures, c.len.ensures.count) in
    let count : c.in_ok-count.count ≡ length c.args.messages.now = omega (arith, c.in_ok-count.ensures, c.len-2.ensures.count) in
    sent_is inside.messages c.append.new.self c.args.messages.now inside.moments.items c.reserve-2.new.self.items new.moments.items
    inside.places.items c.reserve.new.self.items new.places.items _ _ c.args.moment _ c.args.self.now
    c.self.invariant.among c.self.invariant.each c.self.view_is
    c.in_ok-append.ensures.ok c.in_ok-reserve-2.ensures.items c.in_ok-reserve.ensures.items first count passed c.push_places.ensures.places c.push_places.ensures.moments
