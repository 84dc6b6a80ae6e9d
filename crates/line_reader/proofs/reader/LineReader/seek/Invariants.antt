use Rattle.std.proofs.Common.{◌≡◌, ◌≤◌, ◌-◌, false, length, take, IsTrue}
use Rattle.script_text.specs.Lines.{has_end}
use Rattle.line_reader.specs.Reading.{holds, Reads}
use Rattle.line_reader.proofs.reader.LineReader.seek.Given as goal

-- what was read is held, and no line ends in its front
abbrev pub invariant-loop-len : goal.invariant-loop-len
invariant-loop-len g l = record {
  inside : l.clear ≤ length l.self.held;
  none : has_end (take l.clear l.self.held) ≡ false;
  same : l.self ≡ holds l.initial.self l.self.held;
  reads : Reads (g.H.Shelf.left l.initial.shelf) (g.H.Shelf.left l.shelf) l.initial.self.held l.self.held;
  told : g.H.Shelf.told l.shelf ≡ g.H.Shelf.told l.initial.shelf;
  begun : IsTrue (g.H.Shelf.begun l.shelf);
  later : g.H.Shelf.faults l.initial.shelf ≤ g.H.Shelf.faults l.shelf;
  sure : IsTrue (g.H.Shelf.sure l.initial.shelf) → IsTrue (g.H.Shelf.sure l.shelf);
}

abbrev pub decreases-loop-len : goal.decreases-loop-len
decreases-loop-len g l = 81921 - length l.self.held
