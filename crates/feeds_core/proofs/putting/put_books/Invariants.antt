use Rattle.std.proofs.Common.{◌≡◌, ◌+◌, ◌≤◌, length}
use Rattle.feeds_core.specs.Books.{MakeRunsFrom}
use Rattle.feeds_core.specs.Putting.{PutsUpTo, parts_text}
use Rattle.feeds_core.proofs.putting.put_books.Given as goal

-- the parts of the books before the rest were put
abbrev pub invariant-loop-rest : goal.invariant-loop-rest
invariant-loop-rest g l = record {
  put : PutsUpTo (parts_text l.config 0 l.books) (parts_text l.config l.first l.rest) (g.K.Sink.told l.initial.out) (g.K.Sink.told l.out);
  runs : MakeRunsFrom l.config l.first l.rest;
  count : l.first + length l.rest ≡ length l.books;
  later : g.K.Sink.faults l.initial.out ≤ g.K.Sink.faults l.out;
}

abbrev pub decreases-loop-rest : goal.decreases-loop-rest
decreases-loop-rest g l = length l.rest
