use Rattle.std.proofs.Common.{subst}
use Rattle.live_edge.specs.Edges.{Edged}
use Rattle.live_edge.specs.Joins.{IsRun}
use Rattle.live_words.specs.Frames.{frames_of}
use Rattle.live_edge.proofs.Joining.{took_run}
use Rattle.live_edge.proofs.edge.LiveEdge.outside.Goals as goal

pub returns : goal.returns
returns g c =
    let d = c.self.inside.desk in
    record {
      took = λ port. subst (λ (e : Edged). IsRun (g.O.Ports.went d.connections.outside port) (λ m. frames_of e.names m e.told)) c.self.view_is
          (took_run d.connections.story.tale.past d.connections.table (g.O.Ports.came d.connections.outside) (g.O.Ports.went d.connections.outside)
          (λ m. frames_of d.setup.members m d.connections.story.tale.told) c.self.invariant.joined c.self.invariant.put port);
    }
