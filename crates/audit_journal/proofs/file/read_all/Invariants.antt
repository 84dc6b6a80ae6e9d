-- What was read is what the shelf has given.
use Rattle.std.proofs.Common.{◌≡◌, ◌-◌, ◌≤◌, IsTrue, length}
use Rattle.std.specs.Io.KnownBytes.{Consumes}
use Rattle.audit_journal.specs.declared.file.TheConstants.{MAX_JOURNAL_BYTES}
use Rattle.audit_journal.proofs.file.read_all.Given as goal

abbrev pub invariant-pieces : goal.invariant-pieces
invariant-pieces g l = record {
  read : Consumes (g.H.Shelf.left l.initial.shelf) (g.H.Shelf.left l.shelf) l.bytes.items;
  within : length l.bytes.items ≤ MAX_JOURNAL_BYTES;
  begun : IsTrue (g.H.Shelf.begun l.shelf);
  later : g.H.Shelf.faults l.initial.shelf ≤ g.H.Shelf.faults l.shelf;
}

-- each piece has a byte
abbrev pub decreases-pieces : goal.decreases-pieces
decreases-pieces g l = MAX_JOURNAL_BYTES - length l.bytes.items
