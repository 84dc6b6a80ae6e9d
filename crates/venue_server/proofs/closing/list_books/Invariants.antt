-- The first books were listed.
use Rattle.std.proofs.Common.{◌≡◌, ◌≤◌, take}
use Rattle.std.specs.Io.KnownBytes.{Appends}
use Rattle.venue_server.proofs.Lists.{listed}
use Rattle.venue_server.proofs.closing.list_books.Given as goal

abbrev pub invariant-loop-book : goal.invariant-loop-book
invariant-loop-book g l =
    Appends (g.K.Sink.told l.initial.out) (g.K.Sink.told l.out) (listed l.config 0 (take l.book-index l.books))
    × (l.symbol ≡ l.book-index)
    × (g.K.Sink.faults l.initial.out ≤ g.K.Sink.faults l.out)
