-- What a day comes to: a script worked over a journal.
use Rattle.std.specs.Prelude.{◌≡◌, ◌≤◌, ◌+◌, ◌⊎◌, ℕ, true, List, [], ◌++◌, length, take, Option, Some, None, IfSome, IsSome, IsNone}
use Rattle.std.specs.Io.KnownBytes.{Appends}
use Rattle.venue_words.specs.declared.limits.TheConstants.{MAX_DAY_BYTES}
use Rattle.day_journal.specs.Disk.{Told, LeavesOnly}
use Rattle.day_journal.specs.Log.{reading}
use Rattle.io_edge.specs.Files.{Files}
use Rattle.replay_core.specs.Histories.{place_behind}
use Rattle.replay_core.specs.Play.{start, script}
use Rattle.replay_core.specs.Telling.{Seen}
use Rattle.script_text.specs.Lines.{cut}
use Rattle.script_text.specs.declared.fault.LineFault.{LineFault}
use Rattle.script_text.specs.declared.fault.LineFault.TheVariants as fault
use Rattle.day_core.specs.Agreement.{Agrees}
use Rattle.day_core.specs.Crashes.{Found, Follows, Stored}
use Rattle.day_core.specs.DayFiles.{files_of, script_named, IsScript, LacksScript}
use Rattle.day_core.specs.Refusing.{refusal, refusal_here}
use Rattle.day_core.specs.declared.status.DayStatus.{DayStatus}
use Rattle.day_core.specs.declared.status.DayStatus.TheVariants.{Done, BadWords, BadLine, LimitLine, Differs, Damaged, DiskFault, ReadFault, WriteFault, NoMemory}

abbrev pub lines_of : List ℕ → List (List ℕ)
lines_of text = (cut text).lines

-- all the output of these lines was put, but for a part of the last line's
pub record PutsPart (old new : Option (List ℕ)) (given : List ℕ) : Type 0 where
  pub first : List ℕ
  pub last : List ℕ
  pub whole : given ≡ first ++ last
  pub one : length (lines_of last) ≤ 1
  pub count : ℕ
  pub least : length (script first).text ≤ count
  pub grew : Appends old new (take count (script given).text)

-- what was put of the output of these lines
abbrev pub Output : DayStatus → Option (List ℕ) → Option (List ℕ) → List ℕ → Type 0
Output WriteFault old new given = PutsPart old new given
Output _ old new given = Appends old new (script given).text

-- the line behind these is the first one that is refused, for this reason
abbrev pub IsRefused : List ℕ → List ℕ → LineFault → Type 0
IsRefused bytes given why = refusal bytes ≡ refusal_here (length (lines_of given)) (Some why)

-- of the script these lines had been read and a part of the next one, and this is left
pub record BreaksOff (bytes given left : List ℕ) : Type 0 where
  pub part : List ℕ
  pub unfinished : lines_of part ≡ []
  pub whole : bytes ≡ (given ++ part) ++ left

-- why the day ended behind these lines of the script; on a failed read they are all that had been read, where the shelf tells
-- what is left
abbrev pub Cause : List ℕ → List ℕ → Option (List ℕ) → DayStatus → Type 0
Cause bytes given left Done = (given ≡ bytes) × (refusal bytes ≡ None)
Cause bytes given left (BadLine n cause) = IsRefused bytes given (fault.Bad n cause)
Cause bytes given left (LimitLine n which) = IsRefused bytes given (fault.Limit n which)
Cause bytes given left (Differs n) = n ≡ length (lines_of given) + 1
Cause bytes given left ReadFault = IfSome left (BreaksOff bytes given)
Cause bytes given left BadWords = given ≡ []
Cause bytes given left (Damaged at) = given ≡ []
Cause bytes given left _ = Unit {0}

-- the whole lines that were worked of a script's bytes, none of them refused; what was put, why it ended, and the steps
pub record Worked (bytes given : List ℕ) (left : Option (List ℕ)) (old new : Seen) (status : DayStatus) : Type 0 where
  pub rest : List ℕ
  pub whole : bytes ≡ given ++ rest
  pub lines : (cut given).rest ≡ []
  pub taken : IsSome (place_behind start (lines_of given))
  pub within : length given ≤ MAX_DAY_BYTES
  pub output : Output status old.told new.told given
  pub cause : Cause bytes given left status
  pub steps : new.steps ≤ old.steps + (script bytes).steps

-- Over an honest disk: the journal's lines were compared with the script's, each line that was worked is on the disk, and what
-- a crash leaves, now and at any moment since the start.
pub record Journaled (lines worked : List (List ℕ)) (start now : Told) (status : DayStatus) : Type 0 where
  pub found : Found (reading start.seen) status
  pub agrees : Agrees (reading start.seen).lines lines worked status
  pub stored : Stored (reading start.seen).lines worked now status
  pub crash : LeavesOnly start now (Follows lines start.may_leave)

-- where the script could not be opened no line was worked, over a shelf that tells its files
abbrev pub NoneUnopened : Option Files → Option (List ℕ) → List ℕ → DayStatus → Type 0
NoneUnopened files left given status = status ≡ ReadFault → IsNone left → IfSome files (λ _. given ≡ [])

-- a script's bytes, of which this is left on the shelf, worked over the journal on a disk
pub record Ran (bytes : List ℕ) (left : Option (List ℕ)) (begun ended : Told) (old new : Seen) (status : DayStatus) : Type 0 where
  pub given : List ℕ
  pub worked : Worked bytes given left old new status
  pub journal : begun.honest ≡ true → Journaled (lines_of bytes) (lines_of given) begun ended status

-- before a script was opened
abbrev pub IsEarly : DayStatus → Type 0
IsEarly DiskFault = Unit {0}
IsEarly (Damaged at) = Unit {0}
IsEarly ReadFault = Unit {0}
IsEarly NoMemory = Unit {0}
IsEarly _ = ⊥

-- the status with which a day ends, what was put by then and is left on the shelf, and what the disk holds
pub record Ends (files : Option Files) (words : List (List ℕ)) (left : Option (List ℕ)) (begun ended : Told) (old new : Seen)
    (status : DayStatus) : Type 0 where
  -- the bytes of the script, or some bytes where the shelf does not tell them
  pub bytes : List ℕ
  pub script : IsScript files (script_named words) bytes
  pub ran : Ran bytes left begun ended old new status
  pub unopened : NoneUnopened files left ran.given status
  -- words of another form, and a script that is not there: nothing is put, and no step is counted
  pub bad_words : status ≡ BadWords → files_of words ≡ None
  pub other_words : files_of words ≡ None → ((status ≡ BadWords) ⊎ (status ≡ NoMemory)) × (new ≡ old)
  pub missing : LacksScript files (script_named words) → IsEarly status × (new ≡ old)
