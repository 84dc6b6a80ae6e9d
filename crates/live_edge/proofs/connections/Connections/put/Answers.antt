use Rattle.std.proofs.Common.{ap, Ok}
use Rattle.live_edge.specs.Stories.{Story}
use Rattle.live_edge.proofs.Joining.{at_put}
use Rattle.live_edge.proofs.connections.Connections.put.Goals as goal

pub returns-in-Ok-clause-joined : goal.returns-in-Ok-clause-joined
returns-in-Ok-clause-joined g c j =
    c.note_put.ensures.joined (at_put c.args.member c.args.bytes.now c.in-Ok.putting (ap (λ (s : Story). s.past) c.then-self.ensures) (c.in-Ok.ensures.sound c.args.self.now.story.tale.past j.sound) (λ p e. (c.in-Ok.ensures.over p (ap Ok e)).0) j)
