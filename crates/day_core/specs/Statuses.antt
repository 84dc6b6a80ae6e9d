-- How a day ends: the statuses of refusals, what is told of a status, and the program's exit.
use Rattle.std.specs.Prelude.{ℕ, Bool, true, false, List, [], ◌++◌, Option, codes, decimal}
use Rattle.day_journal.specs.declared.refusal.OpenRefusal.{OpenRefusal}
use Rattle.day_journal.specs.declared.refusal.OpenRefusal.TheVariants as opening
use Rattle.line_reader.specs.Endings.{Told, line_of, after_failure}
use Rattle.program_words.specs.declared.WordFault.{WordFault}
use Rattle.program_words.specs.declared.WordFault.TheVariants as word
use Rattle.script_text.specs.Causes.{cause_name, limit_name}
use Rattle.script_text.specs.declared.fault.LineFault.{LineFault}
use Rattle.script_text.specs.declared.fault.LineFault.TheVariants as fault
use Rattle.day_core.specs.declared.status.DayStatus.{DayStatus}
use Rattle.day_core.specs.declared.status.DayStatus.TheVariants.{Done, BadWords, BadLine, LimitLine, Differs, Damaged, DiskFault, ReadFault, WriteFault, NoMemory}

-- of a refused line
abbrev pub refused : LineFault → DayStatus
refused (fault.Bad line cause) = BadLine line cause
refused (fault.Limit line which) = LimitLine line which
refused fault.NoMemory = NoMemory

-- why words name no files
abbrev pub words_refused : WordFault → DayStatus
words_refused word.BadWords = BadWords
words_refused word.NoMemory = NoMemory

-- why a journal was not opened
abbrev pub opening_refused : OpenRefusal → DayStatus
opening_refused opening.DiskFault = DiskFault
opening_refused (opening.Damaged at) = Damaged at
opening_refused opening.NoMemory = NoMemory

-- what is told of a status, behind the program's name
abbrev pub told_of : DayStatus → List ℕ
told_of Done = []
told_of BadWords = codes "bad words"
told_of (BadLine line cause) = codes "line " ++ (decimal line ++ (codes ": " ++ cause_name cause))
told_of (LimitLine line which) = codes "line " ++ (decimal line ++ (codes ": limit " ++ limit_name which))
told_of (Differs line) = codes "line " ++ (decimal line ++ codes " differs")
told_of (Damaged at) = codes "journal damaged at " ++ decimal at
told_of DiskFault = codes "disk fault"
told_of ReadFault = codes "read fault"
told_of WriteFault = codes "write fault"
told_of NoMemory = codes "out of memory"

-- the statuses that yield to a failed put of their text
abbrev pub yields : DayStatus → Bool
yields BadWords = true
yields (BadLine line cause) = true
yields (LimitLine line which) = true
yields _ = false

-- the name of the program
abbrev pub program : List ℕ
program = codes "pegday"

-- what is put to the second sink
abbrev pub status_text : DayStatus → List ℕ
status_text status = line_of program (told_of status)

-- what a status is after its text was put to the second sink
abbrev pub IsTold : DayStatus → DayStatus → Option (List ℕ) → Option (List ℕ) → ℕ → ℕ → Type 0
IsTold status result old new before now =
    Told (status_text status) (after_failure (yields status) status WriteFault) status result old new before now

-- the exit of the program
abbrev pub exit_of : DayStatus → ℕ
exit_of Done = 0
exit_of BadWords = 2
exit_of (BadLine line cause) = 3
exit_of (LimitLine line which) = 4
exit_of ReadFault = 5
exit_of WriteFault = 6
exit_of NoMemory = 7
exit_of DiskFault = 10
exit_of (Damaged at) = 11
exit_of (Differs line) = 12
