-- The books so far have the first limits and ticks.
use Rattle.std.proofs.Common.{◌≡◌, map, take}
use Rattle.std.specs.List.{All}
use Rattle.venue_core.specs.Books.{IsNewBook}
use Rattle.venue_core.proofs.books.books_of.Given as goal

abbrev pub invariant-loop-i : goal.invariant-loop-i
invariant-loop-i l =
    (map (λ book. book.limit) l.books.items ≡ take l.i l.limits)
    × (map (λ book. book.tick) l.books.items ≡ take l.i l.ticks)
    × All (IsNewBook l.markets) l.books.items
