use Rattle.std.proofs.Common.{◌≡◌, ℕ}
use Rattle.socket_ports.specs.Places.{came_in, went_in, up_in}
use Rattle.socket_ports.proofs.outside.note_all.Given as goal

abbrev pub invariant-loop-event : goal.invariant-loop-event
invariant-loop-event l = record {
  came : (q : ℕ) → came_in l.seats.places.items q ≡ came_in l.initial.seats.places.items q;
  went : (q : ℕ) → went_in l.seats.places.items q ≡ went_in l.initial.seats.places.items q;
  up : (q : ℕ) → up_in l.seats.places.items q ≡ up_in l.initial.seats.places.items q;
}
