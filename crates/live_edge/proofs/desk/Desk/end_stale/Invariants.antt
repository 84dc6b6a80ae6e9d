use Rattle.std.proofs.Common.{◌≡◌, ◌≤◌, ◌+◌}
use Rattle.live_edge.specs.Joins.{Joined}
use Rattle.live_edge.specs.Rounds.{Keeps}
use Rattle.live_edge.proofs.desk.Desk.end_stale.Given as goal

abbrev pub invariant-loop-market : goal.invariant-loop-market
invariant-loop-market g l = record {
  keeps : Keeps l.initial.self.connections.story.tale l.self.connections.story.tale;
  setup : l.self.setup ≡ l.initial.self.setup;
  left : l.self.left ≡ l.initial.self.left;
  last : l.self.last ≡ l.initial.self.last;
  joined : Joined l.initial.self.connections.story.tale.past l.initial.self.connections.table (g.O.Ports.came l.initial.self.connections.outside) (g.O.Ports.went l.initial.self.connections.outside) → Joined l.self.connections.story.tale.past l.self.connections.table (g.O.Ports.came l.self.connections.outside) (g.O.Ports.went l.self.connections.outside);
  later : g.O.Ports.faults l.initial.self.connections.outside + l.initial.self.connections.faults ≤ g.O.Ports.faults l.self.connections.outside + l.self.connections.faults;
}
