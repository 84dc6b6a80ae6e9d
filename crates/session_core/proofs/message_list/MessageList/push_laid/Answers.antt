use Rattle.session_core.proofs.ListedBodies.{pushed_is}
use Rattle.session_core.proofs.message_list.MessageList.push_laid.Goals as goal

pub returns-in-Ok-clause-ok : goal.returns-in-Ok-clause-ok
returns-in-Ok-clause-ok g c =
    let inside = c.self.inside in
    let new = c.push_laid.new in
    pushed_is inside.bodies.items new.bodies.items _ inside.parts.items new.parts.items c.args.kind c.args.self.now c.self.invariant c.self.view_is
    c.in-Ok.ensures.bodies c.in-Ok.ensures.parts
