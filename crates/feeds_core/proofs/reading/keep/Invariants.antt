use Rattle.std.proofs.Common.{◌≡◌, ◌+◌, ◌-◌, ◌≤◌, ℕ, List, Some, IsTrue, length}
use Rattle.venue_words.specs.declared.limits.TheConstants.{MAX_CONFIG_BYTES}
use Rattle.feeds_core.specs.Reading.{AreWholeLines, KeepsFront}
use Rattle.feeds_core.proofs.reading.keep.Given as goal

-- whole lines were kept, and the rest of the file is ahead
abbrev pub invariant-loop-text : goal.invariant-loop-text
invariant-loop-text g l = record {
  front : (text : List ℕ) → g.H.Shelf.left l.initial.shelf ≡ Some text → KeepsFront text l.lines.items l.reader.held (g.H.Shelf.left l.shelf);
  whole : AreWholeLines l.lines.items;
  bytes : l.reader.bytes ≡ l.already + length l.lines.items;
  most : l.reader.most ≡ MAX_CONFIG_BYTES;
  within : l.reader.bytes ≤ l.reader.most;
  told : g.H.Shelf.told l.shelf ≡ g.H.Shelf.told l.initial.shelf;
  begun : IsTrue (g.H.Shelf.begun l.shelf);
  later : g.H.Shelf.faults l.initial.shelf ≤ g.H.Shelf.faults l.shelf;
  sure : IsTrue (g.H.Shelf.sure l.initial.shelf) → IsTrue (g.H.Shelf.sure l.shelf);
}

abbrev pub decreases-loop-text : goal.decreases-loop-text
decreases-loop-text g l = l.reader.most + 1 - l.reader.bytes
