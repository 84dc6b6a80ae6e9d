-- How often the calls of a run failed, and which faults its status may then be.
use Rattle.std.specs.Prelude.{◌≡◌, ◌⊎◌, ℕ, ◌≤◌}
use Rattle.venue_words.specs.Causes.{Rose}

-- how often a shelf's calls failed, and those of the sink of the output
pub record Faults : Type 0 where
  pub reads : ℕ
  pub writes : ℕ

abbrev pub faults : ℕ → ℕ → Faults
faults reads writes = record { reads = reads; writes = writes }

-- the counts never fall, and a fault is answered only where its count rose
pub record IsCaused {S : Type 0} (read_fault write_fault : S) (before now : Faults) (status : S) : Type 0 where
  pub read_later : before.reads ≤ now.reads
  pub write_later : before.writes ≤ now.writes
  pub read : status ≡ read_fault → Rose before.reads now.reads
  pub write : status ≡ write_fault → Rose before.writes now.writes

-- the same of a run whose status was told: a write fault may also come where the calls of the sink of that text failed
pub record IsCausedOrUntold {S : Type 0} (read_fault write_fault : S) (before now : Faults) (told_before told_now : ℕ) (status : S) : Type 0 where
  pub read_later : before.reads ≤ now.reads
  pub write_later : before.writes ≤ now.writes
  pub tell_later : told_before ≤ told_now
  pub read : status ≡ read_fault → Rose before.reads now.reads
  pub write : status ≡ write_fault → Rose before.writes now.writes ⊎ Rose told_before told_now
