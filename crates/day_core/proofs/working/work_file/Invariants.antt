use Rattle.std.proofs.Common.{◌≡◌, ◌+◌, ◌-◌, ◌≤◌, IsTrue}
use Rattle.venue_words.specs.declared.limits.TheConstants.{MAX_DAY_BYTES}
use Rattle.replay_core.specs.Phases.{IsReady}
use Rattle.replay_core.specs.Telling.{seen}
use Rattle.day_core.specs.Middle.{AtLine}
use Rattle.day_core.proofs.working.work_file.Given as goal

-- the lines so far were worked over the journal's; the shelf has a file begun, and stays sure where it was
abbrev pub invariant-loop-text : goal.invariant-loop-text
invariant-loop-text g l = record {
  here : AtLine g.F.Floor.at g.D.Disk.told (g.H.Shelf.left l.initial.shelf) (g.H.Shelf.left l.shelf)
      (seen (g.K.Sink.told l.initial.out) l.initial.steps) (seen (g.K.Sink.told l.out) l.steps) l.reader l.work.phase
      l.initial.journal.lines.items (g.D.Disk.told l.initial.journal.log.disk) l.journal.log;
  had : l.journal.lines ≡ l.initial.journal.lines;
  named : g.D.Disk.file_name l.journal.log.disk ≡ g.D.Disk.file_name l.initial.journal.log.disk;
  most : l.reader.most ≡ MAX_DAY_BYTES;
  within : l.reader.bytes ≤ l.reader.most;
  ready : IsReady l.work.phase;
  begun : IsTrue (g.H.Shelf.begun l.shelf);
  read_later : g.H.Shelf.faults l.initial.shelf ≤ g.H.Shelf.faults l.shelf;
  write_later : g.K.Sink.faults l.initial.out ≤ g.K.Sink.faults l.out;
  disk_later : g.D.Disk.faults l.initial.journal.log.disk ≤ g.D.Disk.faults l.journal.log.disk;
  sure : IsTrue (g.H.Shelf.sure l.initial.shelf) → IsTrue (g.H.Shelf.sure l.shelf);
}

-- each line has a byte
abbrev pub decreases-loop-text : goal.decreases-loop-text
decreases-loop-text g l = l.reader.most + 1 - l.reader.bytes
