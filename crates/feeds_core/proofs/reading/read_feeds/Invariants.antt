use Rattle.std.proofs.Common.{◌≡◌, ◌≤◌, Some, IsTrue, length, map}
use Rattle.io_edge.specs.Files.{Files}
use Rattle.venue_words.specs.declared.limits.TheConstants.{MAX_CONFIG_BYTES}
use Rattle.feeds_core.specs.Reading.{KeepsFirst}
use Rattle.feeds_core.proofs.reading.read_feeds.Given as goal

-- the feeds so far were read
abbrev pub invariant-loop-name : goal.invariant-loop-name
invariant-loop-name g l = record {
  first : (files : Files) → g.H.Shelf.told l.initial.shelf ≡ Some files
      → KeepsFirst files (map (λ name. name.now) l.names) l.name-index l.already l.bytes l.feeds.items;
  count : length l.feeds.items ≡ l.name-index;
  within : l.bytes ≤ MAX_CONFIG_BYTES;
  told : g.H.Shelf.told l.shelf ≡ g.H.Shelf.told l.initial.shelf;
  later : g.H.Shelf.faults l.initial.shelf ≤ g.H.Shelf.faults l.shelf;
  sure : IsTrue (g.H.Shelf.sure l.initial.shelf) → IsTrue (g.H.Shelf.sure l.shelf);
}
