use Rattle.std.proofs.Common.{◌≡◌, ◌∷◌, [], length, refl, w64, to_z, of_z, rules, arith}
use Rattle.session_core.specs.Bodies.{message}
use Rattle.session_core.proofs.SentPlaces.{sent_is}
use Rattle.session_core.proofs.sent.SentMessages.push.Goals as goal

pub returns-clause-ok : goal.returns-clause-ok
returns-clause-ok c =
    let inside = c.self.inside in
    let passed : to_z w64 (of_z w64 c.args.moment) ≡ c.args.moment = search rules in
    let first : c.in_ok-place.place ≡ length inside.messages = omega (arith, c.in_ok-place.ensures, c.len.ensures.count) in
    sent_is inside.messages c.push.new.self (message c.args.kind c.args.body.now ∷ []) inside.moments.items c.reserve-2.new.self.items c.push_reserved-2.new.self.items
    inside.places.items c.reserve.new.self.items c.push_reserved.new.self.items c.in_ok-place.place 1 c.args.moment _ c.args.self.now
    c.self.invariant.among c.self.invariant.each c.self.view_is
    c.in_ok-push.ensures.ok c.in_ok-reserve-2.ensures.items c.in_ok-reserve.ensures.items first refl passed c.push_reserved.ensures.items c.push_reserved-2.ensures.items
