-- The bodies of the other list stand behind, and its parts are moved as far.
use Rattle.std.proofs.Common.{◌≡◌, length, arith}
use Rattle.session_core.proofs.ListedBodies.{appended_is, appended_within}
use Rattle.session_core.proofs.message_list.MessageList.append.Goals as goal

pub invariant_of-self-2 : goal.invariant_of-self-2
invariant_of-self-2 c =
    let inside = c.self.inside in
    let other = c.messages.inside in
    let front : c.len-front.result ≡ length inside.bodies.items = omega (arith, c.len-front.ensures, inside.bodies.ok.0) in
    appended_within inside.bodies.items c.extend_from_slice.new.self.items other.bodies.items c.deref.result.now inside.parts.items c.reserve.new.self.items c.push_moved.new.parts.items
    other.parts.items c.deref-2.result.now c.len-front.result c.self.invariant c.messages.invariant
    c.in_ok-extend_from_slice.ensures.items c.deref.ensures.value c.in_ok-reserve.ensures.items c.deref-2.ensures.value front c.push_moved.ensures

pub returns-clause-ok : goal.returns-clause-ok
returns-clause-ok c =
    let inside = c.self.inside in
    let other = c.messages.inside in
    let front : c.len-front.result ≡ length inside.bodies.items = omega (arith, c.len-front.ensures, inside.bodies.ok.0) in
    appended_is inside.bodies.items c.extend_from_slice.new.self.items other.bodies.items c.deref.result.now inside.parts.items c.reserve.new.self.items c.push_moved.new.parts.items
    other.parts.items c.deref-2.result.now c.len-front.result c.args.self.now c.args.messages.now c.self.invariant c.self.view_is c.messages.view_is
    c.in_ok-extend_from_slice.ensures.items c.deref.ensures.value c.in_ok-reserve.ensures.items c.deref-2.ensures.value front c.push_moved.ensures
