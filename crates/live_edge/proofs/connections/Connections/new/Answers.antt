use Rattle.std.proofs.Common.{ap}
use Rattle.live_edge.specs.Stories.{Story}
use Rattle.live_edge.proofs.Joining.{begins}
use Rattle.live_edge.proofs.connections.Connections.new.Goals as goal

pub returns-clause-joined : goal.returns-clause-joined
returns-clause-joined g c =
    begins c.new-2.result.tale.past c.in_ok-new.field-0 (g.O.Ports.came c.args.outside) (g.O.Ports.went c.args.outside) (ap (λ (s : Story). s.past) c.new-2.ensures)
    (c.in_ok-new.ensures.sound (g.O.Ports.came c.args.outside) (g.O.Ports.went c.args.outside) c.requires.fresh)
