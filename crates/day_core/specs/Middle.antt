-- A day's script in the middle of its lines.
use Rattle.std.specs.Prelude.{◌≡◌, ◌≤◌, ◌+◌, ℕ, true, false, Bool, List, [], ◌++◌, length, take, nat_lt, Option, Some, None, Ok, Err, IfSome, IsSome}
use Rattle.std.specs.Io.KnownBytes.{Appends, Consumes}
use Rattle.io_edge.specs.Grows.{AppendsPrefix}
use Rattle.venue_words.specs.Floors.{SymbolView}
use Rattle.venue_words.specs.declared.limits.TheConstants.{MAX_DAY_BYTES}
use Rattle.day_journal.specs.Disk.{Told, LeavesOnly}
use Rattle.day_journal.specs.Log.{size_of}
use Rattle.day_journal.specs.LogView.{LogView}
use Rattle.line_reader.specs.Reading.{Reading}
use Rattle.replay_core.specs.Histories.{place_behind}
use Rattle.replay_core.specs.Play.{Place, start, step_at, played}
use Rattle.replay_core.specs.Reading.{IsAtPlace, IsBehind}
use Rattle.replay_core.specs.Telling.{Seen, Leads}
use Rattle.replay_core.specs.declared.phase.Phase.{Phase}
use Rattle.script_text.specs.Lines.{cut}
use Rattle.script_text.specs.declared.fault.LineFault.{LineFault}
use Rattle.script_text.specs.declared.fault.LineFault.TheVariants as fault
use Rattle.day_core.specs.Agreement.{IsFront, kept}
use Rattle.day_core.specs.Crashes.{Follows, Holds}
use Rattle.day_core.specs.Days.{Worked, lines_of}
use Rattle.day_core.specs.Keeping.{Continued, ReadAs}
use Rattle.day_core.specs.Refusing.{day_step}
use Rattle.day_core.specs.Statuses.{refused}
use Rattle.day_core.specs.declared.status.DayStatus.{DayStatus}
use Rattle.day_core.specs.declared.status.DayStatus.TheVariants.{Done, BadWords, BadLine, LimitLine, Differs, Damaged, DiskFault, WriteFault, NoMemory}

-- a line of this number stands behind a place that is within the day's limit, and holds the byte past it or not
pub record IsDayLine (number : ℕ) (text : List ℕ) (is_over : Bool) (place : Place) : Type 0 where
  pub counted : number ≡ place.lines + 1
  pub over : is_over ≡ nat_lt MAX_DAY_BYTES (place.bytes + length text + 1)
  pub within : place.bytes ≤ MAX_DAY_BYTES

-- a line was taken: the phase stands behind it, and this is its output
pub record Took {F : Type 0} (at : F → ℕ → SymbolView) (before after : ℕ) (place : Place) (line : List ℕ) (phase : Phase F) : Type 0 where
  pub next : Place
  pub text : List ℕ
  pub step : (step_at place line).result ≡ Ok (next, text)
  pub within : next.bytes ≤ MAX_DAY_BYTES
  pub behind : IsBehind at place line phase next
  pub steps : after ≤ before + (step_at place line).steps

-- a line that was taken, and its output was put
pub record PutsLine {F : Type 0} (at : F → ℕ → SymbolView) (old new : Seen) (place : Place) (line : List ℕ) (phase : Phase F) : Type 0 where
  pub took : Took at old.steps new.steps place line phase
  pub grew : Appends old.told new.told took.text

-- a line that was taken, and a beginning of its output was put
pub record PutsPartly {F : Type 0} (at : F → ℕ → SymbolView) (old new : Seen) (place : Place) (line : List ℕ) (phase : Phase F) : Type 0 where
  pub took : Took at old.steps new.steps place line phase
  pub grew : AppendsPrefix old.told new.told took.text

-- nothing was put of a line
pub record PutsNothing (old new : Seen) (place : Place) (line : List ℕ) : Type 0 where
  pub told : new.told ≡ old.told
  pub steps : new.steps ≤ old.steps + (step_at place line).steps

-- what was put of a line at which the day ended, and why
abbrev pub EndsIn : {F : Type 0} → (F → ℕ → SymbolView) → Seen → Seen → Place → List ℕ → Phase F → DayStatus → Type 0
EndsIn at old new place line phase (BadLine n cause) = PutsNothing old new place line × (day_step place line ≡ Err (fault.Bad n cause))
EndsIn at old new place line phase (LimitLine n which) = PutsNothing old new place line × (day_step place line ≡ Err (fault.Limit n which))
EndsIn at old new place line phase (Differs n) = PutsNothing old new place line
EndsIn at old new place line phase DiskFault = PutsNothing old new place line
EndsIn at old new place line phase NoMemory = PutsNothing old new place line
EndsIn at old new place line phase WriteFault = PutsPartly at old new place line phase
EndsIn at old new place line phase _ = ⊥

-- these whole lines were taken, and their output was put; as far as the journal's lines go they are the journal's
pub record InDay {F : Type 0} (at : F → ℕ → SymbolView) (first left : Option (List ℕ)) (old new : Seen) (reading : Reading)
    (phase : Phase F) (journal : List (List ℕ)) (worked : List ℕ) : Type 0 where
  pub place : Place
  pub there : IsAtPlace at phase place
  pub lines_are : reading.lines ≡ place.lines
  pub bytes_are : reading.bytes ≡ place.bytes
  pub taken : Consumes first left (worked ++ reading.held)
  pub leads : Leads old new (λ more. played start (worked ++ more)) (played place)
  pub whole : (cut worked).rest ≡ []
  pub behind : place_behind start (lines_of worked) ≡ Some place
  pub count : length (lines_of worked) ≡ reading.lines
  pub bytes : length worked ≡ reading.bytes
  pub within : reading.bytes ≤ MAX_DAY_BYTES
  pub agrees : IsFront (take (length (lines_of worked)) journal) (lines_of worked)

-- over an honest disk: these lines were worked over the journal's
pub record Stands (journal worked : List (List ℕ)) (opened now : Told) : Type 0 where
  pub holds : Holds (kept journal worked) now
  pub crash : LeavesOnly opened now (Follows worked (ReadAs journal))

-- in the middle of a day over a journal that had these lines when it was opened
pub record AtLine {F D : Type 0} (at : F → ℕ → SymbolView) (told : D → Told) (first left : Option (List ℕ)) (old new : Seen)
    (reading : Reading) (phase : Phase F) (journal : List (List ℕ)) (opened : Told) (log : LogView D) : Type 0 where
  pub worked : List ℕ
  pub day : InDay at first left old new reading phase journal worked
  pub unspent : log.spent ≡ false
  pub size : log.size ≡ size_of (kept journal (lines_of worked))
  pub honest : (told log.disk).honest ≡ opened.honest
  pub stands : opened.honest ≡ true → Stands journal (lines_of worked) opened (told log.disk)

-- a day does not end so over a journal that was opened
abbrev pub IsLate : DayStatus → Type 0
IsLate BadWords = ⊥
IsLate (Damaged at) = ⊥
IsLate _ = Unit {0}

-- how a script ends in a day, of which this is refused
abbrev pub ended_by : Option LineFault → DayStatus
ended_by None = Done
ended_by (Some why) = refused why

-- what became of a file that was begun and of which this is left, over a journal of these lines
pub record RanFile (first left : Option (List ℕ)) (journal : List (List ℕ)) (opened now : Told) (old new : Seen) (status : DayStatus) : Type 0 where
  pub bytes : List ℕ
  pub told : IfSome first (λ all. bytes ≡ all)
  pub given : List ℕ
  pub worked : Worked bytes given left old new status
  pub continued : opened.honest ≡ true → Continued journal (lines_of bytes) (lines_of given) opened now status
  pub late : IsLate status
  pub still_told : IfSome first (λ _. IsSome left)
