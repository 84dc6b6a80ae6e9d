use Rattle.std.proofs.Common.{◌≤◌, ◌+◌}
use Rattle.live_edge.specs.Joins.{Joined}
use Rattle.live_edge.specs.Rounds.{Keeps}
use Rattle.live_edge.proofs.connections.Connections.end_slow.Given as goal

abbrev pub invariant-loop-port : goal.invariant-loop-port
invariant-loop-port g l = record {
  keeps : Keeps l.initial.self.story.tale l.self.story.tale;
  joined : Joined l.initial.self.story.tale.past l.initial.self.table (g.O.Ports.came l.initial.self.outside) (g.O.Ports.went l.initial.self.outside) → Joined l.self.story.tale.past l.self.table (g.O.Ports.came l.self.outside) (g.O.Ports.went l.self.outside);
  later : g.O.Ports.faults l.initial.self.outside + l.initial.self.faults ≤ g.O.Ports.faults l.self.outside + l.self.faults;
}
