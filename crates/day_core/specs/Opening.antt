-- A journal that was opened, or was not.
use Rattle.std.specs.Prelude.{◌≡◌, ◌≢◌, ℕ, true, false, List, Option, Some}
use Rattle.day_journal.specs.Disk.{Told, LeavesOnly}
use Rattle.day_journal.specs.Log.{reading, intact, size_of}
use Rattle.day_journal.specs.LogView.{LogView}
use Rattle.day_journal.specs.Refusals.{ReadsAsOne}
use Rattle.io_edge.specs.Files.{Files}
use Rattle.replay_core.specs.Telling.{Seen}
use Rattle.day_core.specs.Crashes.{Found, Holds}
use Rattle.day_core.specs.DayFiles.{IsScript, LacksScript}
use Rattle.day_core.specs.Days.{IsEarly, NoneUnopened, Ran, Worked, lines_of}
use Rattle.day_core.specs.Keeping.{Continued}
use Rattle.day_core.specs.Middle.{IsLate}
use Rattle.day_core.specs.declared.status.DayStatus.{DayStatus}
use Rattle.day_core.specs.declared.status.DayStatus.TheVariants.{BadWords, Damaged, DiskFault, NoMemory}

-- over an honest disk: the file had these lines, and has them
pub record HasLines (lines : List (List ℕ)) (start now : Told) : Type 0 where
  pub found : reading start.seen ≡ intact lines
  pub holds : Holds lines now
  pub crash : LeavesOnly start now (ReadsAsOne start.may_leave)

-- a journal was opened, and had these lines
pub record IsOpened {D : Type 0} (told : D → Told) (disk : D) (log : LogView D) (lines : List (List ℕ)) : Type 0 where
  pub unspent : log.spent ≡ false
  pub size : log.size ≡ size_of lines
  pub honest : (told log.disk).honest ≡ (told disk).honest
  pub lines_are : (told disk).honest ≡ true → HasLines lines (told disk) (told log.disk)

-- the status with which a day ends whose journal was not opened
abbrev pub IsOpening : DayStatus → Type 0
IsOpening (Damaged at) = Unit {0}
IsOpening DiskFault = Unit {0}
IsOpening NoMemory = Unit {0}
IsOpening _ = ⊥

-- a journal was not opened
pub record IsNotOpened (start now : Told) (status : DayStatus) : Type 0 where
  pub opening : IsOpening status
  pub found : start.honest ≡ true → Found (reading start.seen) status
  pub crash : start.honest ≡ true → LeavesOnly start now (ReadsAsOne start.may_leave)

-- what became of a script over a journal that was opened: of its bytes, where the shelf tells them; one that is not there has none
pub record RanScript (files : Option Files) (name : List ℕ) (left : Option (List ℕ)) (journal : List (List ℕ)) (opened now : Told)
    (old new : Seen) (status : DayStatus) : Type 0 where
  pub bytes : List ℕ
  pub script : IsScript files (Some name) bytes
  pub given : List ℕ
  pub worked : Worked bytes given left old new status
  pub continued : opened.honest ≡ true → Continued journal (lines_of bytes) (lines_of given) opened now status
  pub late : IsLate status
  pub unopened : NoneUnopened files left given status
  pub missing : LacksScript files (Some name) → IsEarly status × (new ≡ old)

-- what became of a script and its journal
pub record RanFiles (files : Option Files) (name : List ℕ) (left : Option (List ℕ)) (begun ended : Told) (old new : Seen) (status : DayStatus) : Type 0 where
  pub bytes : List ℕ
  pub script : IsScript files (Some name) bytes
  pub ran : Ran bytes left begun ended old new status
  pub unopened : NoneUnopened files left ran.given status
  pub words : status ≢ BadWords
  pub missing : LacksScript files (Some name) → IsEarly status × (new ≡ old)
