use Rattle.std.proofs.Common.{ap}
use Rattle.live_edge.specs.Stories.{Story}
use Rattle.live_edge.proofs.Joining.{at_named}
use Rattle.live_edge.proofs.connections.Connections.name.Goals as goal

pub returns-in-Ok-clause-joined : goal.returns-in-Ok-clause-joined
returns-in-Ok-clause-joined g c j = at_named c.args.port c.args.member _ c.in-Ok.naming (ap (λ (s : Story). s.past) c.then-self.ensures) c.in-Ok.ensures.named (c.in-Ok.ensures.sound c.args.self.now.story.tale.past j.sound) j
