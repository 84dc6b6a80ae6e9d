use Rattle.std.proofs.Common.{◌≡◌}
use Rattle.socket_ports.proofs.outside.next_word.Given as goal

abbrev pub invariant-loop : goal.invariant-loop
invariant-loop g l = record {
  places : l.sockets.seats.places ≡ l.initial.sockets.seats.places;
  faults : l.sockets.faults ≡ l.initial.sockets.faults;
}
