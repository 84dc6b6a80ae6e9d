-- What holds of the lines from here on holds of those from the start on.
use Rattle.std.proofs.Common.{◌≡◌, ◌≤◌, ◌+◌, ◌-◌, IsTrue}
use Rattle.line_reader.specs.Reading.{ahead}
use Rattle.audit_core.specs.Ahead.{IsHeard, ReadsOn, at}
use Rattle.audit_core.proofs.verdict.read_lines.Given as goal

abbrev pub invariant-lines : goal.invariant-lines
invariant-lines g l = record {
  stands : IsHeard (g.W.Watch.heard l.watch) l.config l.auditor;
  on : ReadsOn g.W.Watch.tells (at l.config l.initial.auditor) (at l.config l.auditor) l.initial.reader l.reader (ahead l.initial.reader.held (g.H.Shelf.left l.initial.shelf)) (ahead l.reader.held (g.H.Shelf.left l.shelf)) (g.W.Watch.output l.initial.watch) (g.W.Watch.output l.watch);
  most : l.reader.most ≡ l.initial.reader.most;
  within : l.reader.bytes ≤ l.reader.most;
  told : g.H.Shelf.told l.shelf ≡ g.H.Shelf.told l.initial.shelf;
  begun : IsTrue (g.H.Shelf.begun l.shelf);
  later : g.H.Shelf.faults l.initial.shelf ≤ g.H.Shelf.faults l.shelf;
  put_later : g.W.Watch.faults l.initial.watch ≤ g.W.Watch.faults l.watch;
  sure : IsTrue (g.H.Shelf.sure l.initial.shelf) → IsTrue (g.H.Shelf.sure l.shelf);
}

abbrev pub decreases-lines : goal.decreases-lines
decreases-lines g l = l.reader.most + 1 - l.reader.bytes
