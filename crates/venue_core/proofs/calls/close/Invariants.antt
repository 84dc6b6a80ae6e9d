-- The books so far are those of the first seats, and the seats that are left are of the gates that are left.
use Rattle.std.proofs.Common.{◌≡◌, ◌≤◌, ◌+◌, map, length}
use Rattle.std.specs.List.{All}
use Rattle.std.specs.Vec.{vec_capacity, vec_len}
use Rattle.turn_gate.specs.Rule.{whole}
use Rattle.venue_core.specs.Closing.{IsBookOf}
use Rattle.venue_core.proofs.Closes.{HasFirst}
use Rattle.venue_core.proofs.calls.close.Given as goal

abbrev pub invariant-loop-gate : goal.invariant-loop-gate
invariant-loop-gate g l =
    HasFirst (IsBookOf g.V.Held.journal g.V.Held.limit g.V.Held.setting) l.fn.seats.items l.seats.rest.items l.books.items
    × (map (λ seat. seat.gate) l.seats.rest.items ≡ l.gate-iterator.rest.items)
    × All (λ seat. seat.part ≡ whole) l.seats.rest.items
    × (vec_len l.books + length l.gate-iterator.rest.items ≤ vec_capacity l.books)
    × (length l.gate-iterator.rest.items ≡ l.gate-iterator.rest.len)
    × (length l.seats.rest.items ≡ l.seats.rest.len)
