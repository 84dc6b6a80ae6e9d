use Rattle.std.proofs.Common.{ap}
use Rattle.live_edge.specs.Stories.{Story}
use Rattle.live_edge.proofs.Joining.{at_read, at_ended}
use Rattle.live_edge.proofs.connections.Connections.read.Goals as goal

pub returns-in-Ok-clause-joined : goal.returns-in-Ok-clause-joined
returns-in-Ok-clause-joined g c j = c.note_heard.ensures.joined (at_read c.args.port c.in-Ok.heard (ap (λ (s : Story). s.past) c.then-self.ensures) (c.in-Ok.ensures.sound c.args.self.now.story.tale.past j.sound) j)

pub returns-in-Err-clause-joined : goal.returns-in-Err-clause-joined
returns-in-Err-clause-joined g c j = c.fail.ensures.joined (c.note_end.ensures.joined (at_ended c.args.port (ap (λ (s : Story). s.past) c.then-self-in-Err.ensures) (c.in-Err.ensures.err c.args.self.now.story.tale.past j.sound) j))
