-- What every submitted quote keeps.
use Rattle.std.proofs.Common.{◌≡◌, ◌≤◌, ◌+◌, ◌-◌, IsTrue}
use Rattle.venue_words.specs.declared.limits.TheConstants.{MAX_SCRIPT_BYTES}
use Rattle.serve_core.specs.Quoting.{InMiddle, place}
use Rattle.serve_core.proofs.quotes.submit_file.Given as goal

abbrev pub invariant-lines : goal.invariant-lines
invariant-lines g l = record {
  middle : InMiddle g.F.Floor.at l.config (g.H.Shelf.left l.initial.shelf) (g.H.Shelf.left l.shelf) l.reader.lines l.reader.bytes l.reader.held
      (place l.initial.floor (g.C.Clock.told l.initial.clock)) (place l.floor (g.C.Clock.told l.clock));
  most : l.reader.most ≡ MAX_SCRIPT_BYTES;
  mark : g.F.Floor.mark l.floor ≡ g.F.Floor.mark l.initial.floor;
  begun : IsTrue (g.H.Shelf.begun l.shelf);
  within : l.reader.bytes ≤ l.reader.most;
  later : g.H.Shelf.faults l.initial.shelf ≤ g.H.Shelf.faults l.shelf;
  sure : IsTrue (g.H.Shelf.sure l.initial.shelf) → IsTrue (g.H.Shelf.sure l.shelf);
}

-- each line has a byte
abbrev pub decreases-lines : goal.decreases-lines
decreases-lines g l = l.reader.most + 1 - l.reader.bytes
