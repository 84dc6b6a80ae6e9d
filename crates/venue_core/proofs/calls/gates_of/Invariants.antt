-- The gates and seats so far are those of the first books.
use Rattle.std.proofs.Common.{◌≡◌, ◌++◌, [], map, length}
use Rattle.std.specs.List.{All}
use Rattle.venue_core.specs.Joining.{IsFirstSeat}
use Rattle.venue_core.proofs.calls.gates_of.Given as goal

abbrev pub invariant-loop-book : goal.invariant-loop-book
invariant-loop-book g l =
    (map (λ gate. gate.limit) l.gates.items ≡ map g.V.Held.limit l.yielded)
    × (map (λ gate. gate.setting) l.gates.items ≡ map g.V.Held.setting l.yielded)
    × (map (λ seat. seat.gate) l.seats.items ≡ l.gates.items)
    × All IsFirstSeat l.seats.items
    × (l.fn.books.items ≡ l.yielded ++ l.book-iterator.rest.items)
    × All (λ book. g.V.Held.journal book ≡ []) l.book-iterator.rest.items
    × (length l.book-iterator.rest.items ≡ l.book-iterator.rest.len)
