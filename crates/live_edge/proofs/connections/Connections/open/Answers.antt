use Rattle.std.proofs.Common.{ap}
use Rattle.live_edge.specs.Stories.{Story}
use Rattle.live_edge.proofs.Joining.{at_opened}
use Rattle.live_edge.proofs.connections.Connections.open.Goals as goal

pub returns-in-Ok-clause-joined : goal.returns-in-Ok-clause-joined
returns-in-Ok-clause-joined g c j = at_opened c.in-Ok.opening (ap (λ (s : Story). s.past) c.then-self.ensures) (c.in-Ok.ensures.sound c.args.self.now.story.tale.past j.sound) j
