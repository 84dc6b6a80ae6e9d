-- How often a shelf, a sink and a disk failed, and which faults a status may then be.
use Rattle.std.specs.Prelude.{◌≡◌, ℕ, ◌≤◌}
use Rattle.venue_words.specs.Causes.{Rose}
use Rattle.day_core.specs.declared.status.DayStatus.{DayStatus}
use Rattle.day_core.specs.declared.status.DayStatus.TheVariants.{ReadFault, WriteFault, DiskFault}

-- the counts of the shelf's reads, of the sink's writes and of the disk
pub record Faults : Type 0 where
  pub reads : ℕ
  pub writes : ℕ
  pub disks : ℕ

abbrev pub faults : ℕ → ℕ → ℕ → Faults
faults reads writes disks = record { reads = reads; writes = writes; disks = disks }

-- the counts never fall, and a fault is answered only where its count rose
pub record IsCaused (before now : Faults) (status : DayStatus) : Type 0 where
  pub read_later : before.reads ≤ now.reads
  pub write_later : before.writes ≤ now.writes
  pub disk_later : before.disks ≤ now.disks
  pub read : status ≡ ReadFault → Rose before.reads now.reads
  pub write : status ≡ WriteFault → Rose before.writes now.writes
  pub disk : status ≡ DiskFault → Rose before.disks now.disks
