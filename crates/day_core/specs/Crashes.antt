-- What a crash leaves of a journal, at any moment of a day and behind it.
use Rattle.std.specs.Prelude.{◌≡◌, ◌⊎◌, ℕ, true, false, List}
use Rattle.day_journal.specs.Disk.{Told, Only}
use Rattle.day_journal.specs.Log.{Reading, reading, intact, size_of}
use Rattle.day_journal.specs.Refusals.{ReadsAsOne}
use Rattle.day_core.specs.Agreement.{IsFront, kept}
use Rattle.day_core.specs.declared.status.DayStatus.{DayStatus}
use Rattle.day_core.specs.declared.status.DayStatus.TheVariants.{Done, BadWords, Damaged, DiskFault, NoMemory}

-- a file of whole lines: they are the first ones of these, and they begin with the lines of one of those files
pub record IsGrown (lines : List (List ℕ)) (files : List ℕ → Type 0) (file : List ℕ) : Type 0 where
  pub has : List (List ℕ)
  pub reads : reading file ≡ intact has
  pub front : IsFront has lines
  pub before : List ℕ
  pub was : files before
  pub keeps : IsFront (reading before).lines has

-- a crash leaves lines that it could have left before; or these with the script's next lines, none skipped and none in part
abbrev pub Follows : List (List ℕ) → (List ℕ → Type 0) → List ℕ → Type 0
Follows lines files file = ReadsAsOne files file ⊎ IsGrown lines files file

-- Damage was told exactly where it stands, and no day is worked over it.
abbrev pub Found : Reading → DayStatus → Type 0
Found found (Damaged at) = (found.damaged ≡ true) × (at ≡ size_of found.lines)
Found found BadWords = Unit {0}
Found found DiskFault = Unit {0}
Found found NoMemory = Unit {0}
Found found _ = found.damaged ≡ false

-- each crash from now on leaves a file that reads as these lines
pub record Holds (lines : List (List ℕ)) (now : Told) : Type 0 where
  pub reads : reading now.seen ≡ intact lines
  pub durable : Only now.seen now.may_leave

-- each crash from now on leaves a file that begins with these lines
abbrev pub HoldsFirst : List (List ℕ) → Told → Type 0
HoldsFirst lines now = (file : List ℕ) → now.may_leave file → IsFront lines (reading file).lines

-- the lines on the disk at the end of a day, where these were worked over the journal: a refused one is not among them
abbrev pub Stored : List (List ℕ) → List (List ℕ) → Told → DayStatus → Type 0
Stored journal worked now Done = Holds worked now
Stored journal worked now BadWords = HoldsFirst worked now
Stored journal worked now (Damaged at) = HoldsFirst worked now
Stored journal worked now DiskFault = HoldsFirst worked now
Stored journal worked now NoMemory = HoldsFirst worked now
Stored journal worked now _ = Holds (kept journal worked) now
