use Rattle.std.proofs.Common.{length, ◌-◌, ◌≡◌, ◌≤◌, true}
use Rattle.day_journal.specs.Disk.{LeavesOnly}
use Rattle.day_journal.specs.Log.{reading, ReadsAs}
use Rattle.day_journal.specs.LogView.{Rests}
use Rattle.day_journal.proofs.grow.grow_to.Given as goal

abbrev pub invariant-loop-size : goal.invariant-loop-size
invariant-loop-size g l = record {
  begun : g.D.Disk.begun l.disk ≡ true;
  name : g.D.Disk.file_name l.disk ≡ g.D.Disk.file_name l.fn.disk;
  faults : g.D.Disk.faults l.fn.disk ≤ g.D.Disk.faults l.disk;
  honest : (g.D.Disk.told l.disk).honest ≡ (g.D.Disk.told l.fn.disk).honest;
  size : (g.D.Disk.told l.fn.disk).honest ≡ true → l.size ≡ length (g.D.Disk.told l.disk).seen;
  rests : (g.D.Disk.told l.fn.disk).honest ≡ true → Rests (g.D.Disk.told l.disk);
  lines : (g.D.Disk.told l.fn.disk).honest ≡ true → reading (g.D.Disk.told l.disk).seen ≡ reading (g.D.Disk.told l.fn.disk).seen;
  crash : (g.D.Disk.told l.fn.disk).honest ≡ true → LeavesOnly (g.D.Disk.told l.fn.disk) (g.D.Disk.told l.disk) (ReadsAs (reading (g.D.Disk.told l.fn.disk).seen));
}

abbrev pub decreases-loop-size : goal.decreases-loop-size
decreases-loop-size g l = l.wanted - l.size
