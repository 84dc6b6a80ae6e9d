use Rattle.std.proofs.Common.{◌+◌, ◌≤◌, drop}
use Rattle.feeds_core.specs.Putting.{PutsUpTo, parts_text}
use Rattle.feeds_core.proofs.putting.put_parts.Given as goal

-- the parts of the books so far were put
abbrev pub invariant-loop-text : goal.invariant-loop-text
invariant-loop-text g l = record {
  put : PutsUpTo (parts_text l.config l.first l.books)
      (parts_text l.config (l.first + l.text-index) (drop l.text-index l.books)) (g.K.Sink.told l.initial.out) (g.K.Sink.told l.out);
  later : g.K.Sink.faults l.initial.out ≤ g.K.Sink.faults l.out;
}
