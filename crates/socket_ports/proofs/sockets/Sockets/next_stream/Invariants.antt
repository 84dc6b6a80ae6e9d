use Rattle.std.proofs.Common.{◌≡◌, ◌≤◌}
use Rattle.socket_ports.proofs.sockets.Sockets.next_stream.Given as goal

abbrev pub invariant-loop : goal.invariant-loop
invariant-loop g l = record {
  places : l.self.seats.places ≡ l.initial.self.seats.places;
  later : l.initial.self.faults ≤ l.self.faults;
}
