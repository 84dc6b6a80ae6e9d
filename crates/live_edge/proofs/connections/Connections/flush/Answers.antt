use Rattle.std.proofs.Common.{ap}
use Rattle.live_edge.specs.Stories.{Story}
use Rattle.live_edge.proofs.Joining.{at_ended}
use Rattle.live_edge.proofs.connections.Connections.flush.Goals as goal

pub returns-then-not-flush-clause-joined : goal.returns-then-not-flush-clause-joined
returns-then-not-flush-clause-joined g c j = c.note_end.ensures.joined (at_ended c.args.port (ap (λ (s : Story). s.past) c.then-self.ensures) (c.flush.ensures.err c.args.self.now.story.tale.past j.sound c.if-not-flush.true) j)
