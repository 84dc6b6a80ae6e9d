use Rattle.session_core.proofs.ListedBodies.{pushed_is, on_ok_both}
use Rattle.session_core.proofs.message_list.MessageList.push.Goals as goal

pub returns-clause-ok : goal.returns-clause-ok
returns-clause-ok c =
    let inside = c.self.inside in
    let new = c.push_one.new in
    on_ok_both c.push_one.result
    (pushed_is inside.bodies.items new.bodies.items c.args.body.now inside.parts.items new.parts.items c.args.kind c.args.self.now c.self.invariant c.self.view_is)
    c.push_one.ensures.bodies c.push_one.ensures.parts
