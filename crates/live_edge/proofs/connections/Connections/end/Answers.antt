use Rattle.std.proofs.Common.{ap}
use Rattle.live_edge.specs.Stories.{Story}
use Rattle.live_edge.proofs.Joining.{at_ended}
use Rattle.live_edge.proofs.connections.Connections.end.Goals as goal

pub returns-clause-joined : goal.returns-clause-joined
returns-clause-joined g c j = c.note_fresh.ensures.joined (c.note_end.ensures.joined (at_ended c.args.port (ap (λ (s : Story). s.past) c.then-self.ensures) (c.end.ensures.sound c.args.self.now.story.tale.past j.sound) j))
