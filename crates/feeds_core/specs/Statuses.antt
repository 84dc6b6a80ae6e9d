-- The statuses of a run, and what is told of them.
use Rattle.std.specs.Prelude.{ℕ, ◌<◌, Bool, true, false, List, [], ◌++◌, length, Option, Result, Ok, Err, codes, decimal}
use Rattle.venue_words.specs.declared.config.Config.{Config}
use Rattle.member_gate.specs.Answering.{name_at}
use Rattle.program_words.specs.declared.WordFault.{WordFault}
use Rattle.program_words.specs.declared.WordFault.TheVariants as word
use Rattle.script_text.specs.declared.fault.LineFault.{LineFault}
use Rattle.script_text.specs.declared.fault.LineFault.TheVariants as fault
use Rattle.script_text.specs.Causes.{cause_name, limit_name}
use Rattle.line_reader.specs.Endings.{Told, line_of, after_failure}
use Rattle.feeds_core.specs.declared.status.FeedsStatus.{FeedsStatus}
use Rattle.feeds_core.specs.declared.status.FeedsStatus.TheVariants.{Done, BadWords, BadFeed, LimitFeed, Full, ReadFault, WriteFault, NoMemory}

-- a refused line of a file
abbrev pub refused_at : ℕ → LineFault → FeedsStatus
refused_at file (fault.Bad line cause) = BadFeed file line cause
refused_at file (fault.Limit line which) = LimitFeed file line which
refused_at file fault.NoMemory = NoMemory

-- why words name no files
abbrev pub refusal_of : WordFault → FeedsStatus
refusal_of word.BadWords = BadWords
refusal_of word.NoMemory = NoMemory

-- how work ended that may have stopped early
abbrev pub status_in : Result (Unit {0}) FeedsStatus → FeedsStatus
status_in (Ok x) = Done
status_in (Err status) = status

-- the exit status of the program
abbrev pub exit_of : FeedsStatus → ℕ
exit_of Done = 0
exit_of BadWords = 2
exit_of (BadFeed file line cause) = 3
exit_of (LimitFeed file line which) = 4
exit_of ReadFault = 5
exit_of WriteFault = 6
exit_of NoMemory = 7
exit_of (Full symbol) = 8

-- what is told of a status behind the program's name; this is the name of its symbol
abbrev pub told_of : List ℕ → FeedsStatus → List ℕ
told_of name Done = []
told_of name BadWords = codes "bad words"
told_of name (BadFeed file line cause) =
    codes "file " ++ (decimal file ++ (codes ": line " ++ (decimal line ++ (codes ": " ++ cause_name cause))))
told_of name (LimitFeed file line which) =
    codes "file " ++ (decimal file ++ (codes ": line " ++ (decimal line ++ (codes ": limit " ++ limit_name which))))
told_of name (Full symbol) = codes "full " ++ name
told_of name ReadFault = codes "read fault"
told_of name WriteFault = codes "write fault"
told_of name NoMemory = codes "out of memory"

-- the statuses that yield to a failed put of their text
abbrev pub yields : FeedsStatus → Bool
yields BadWords = true
yields (BadFeed file line cause) = true
yields (LimitFeed file line which) = true
yields (Full symbol) = true
yields _ = false

-- the name of the program
abbrev pub program : List ℕ
program = codes "pegvenue"

-- what is put to the second sink
abbrev pub status_text : List ℕ → FeedsStatus → List ℕ
status_text name status = line_of program (told_of name status)

-- what a status is after its text was put to the second sink
abbrev pub IsTold : List ℕ → FeedsStatus → FeedsStatus → Option (List ℕ) → Option (List ℕ) → ℕ → ℕ → Type 0
IsTold name status result old new before now =
    Told (status_text name status) (after_failure (yields status) status WriteFault) status result old new before now

-- ---- which status may come where

-- a status before a venue is made
abbrev pub IsEarly : Config → FeedsStatus → Type 0
IsEarly config (BadFeed file line cause) = Unit {0}
IsEarly config (LimitFeed file line which) = Unit {0}
IsEarly config (Full symbol) = symbol < length config.symbols
IsEarly config NoMemory = Unit {0}
IsEarly config _ = ⊥

-- a status of feeds that were read
abbrev pub IsOfRun : Config → FeedsStatus → Type 0
IsOfRun config WriteFault = Unit {0}
IsOfRun config status = IsEarly config status

-- the name of a status's symbol
abbrev pub name_of : Config → FeedsStatus → List ℕ
name_of config (Full symbol) = name_at config.symbols symbol
name_of config _ = []

abbrev pub IsFullStatus : FeedsStatus → Type 0
IsFullStatus (Full symbol) = Unit {0}
IsFullStatus _ = ⊥
