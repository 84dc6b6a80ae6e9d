-- How a run ends, and what is told of it.
use Rattle.std.specs.Prelude.{ℕ, Bool, true, false, List, [], ◌++◌, Option, codes, decimal}
use Rattle.program_words.specs.declared.WordFault.{WordFault}
use Rattle.program_words.specs.declared.WordFault.TheVariants as word
use Rattle.script_text.specs.Causes.{cause_name as line_cause_name, limit_name}
use Rattle.session_core.specs.declared.state.EndCause.{EndCause}
use Rattle.session_core.specs.declared.state.EndCause.TheVariants.{Logout, TooLow, NotLogon, BadLogon, NoNumber, WrongName, Silent, TooLong}
use Rattle.line_reader.specs.Endings.{Told, line_of, after_failure}
use Rattle.line_reader.specs.declared.config_file.ConfigFault.{ConfigFault}
use Rattle.line_reader.specs.declared.config_file.ConfigFault.TheVariants as config
use Rattle.market_data.specs.declared.status.MarketStatus.{MarketStatus}
use Rattle.market_data.specs.declared.status.MarketStatus.TheVariants.{Done, BadWords, BadConfig, LimitConfig, LimitBytes, Ended, ReadFault, WriteFault, NoMemory}

-- why words name nothing
abbrev pub refusal_of : WordFault → MarketStatus
refusal_of word.BadWords = BadWords
refusal_of word.NoMemory = NoMemory

-- a config that was not read
abbrev pub refused : ConfigFault → MarketStatus
refused (config.Bad line cause) = BadConfig line cause
refused (config.Limit line which) = LimitConfig line which
refused config.ReadFault = ReadFault
refused config.NoMemory = NoMemory

-- a session that ended
abbrev pub ended_by : EndCause → MarketStatus
ended_by Logout = Done
ended_by cause = Ended cause

-- the exit status
abbrev pub exit_code : MarketStatus → ℕ
exit_code Done = 0
exit_code BadWords = 2
exit_code (BadConfig line cause) = 3
exit_code (LimitConfig line which) = 4
exit_code LimitBytes = 4
exit_code ReadFault = 5
exit_code WriteFault = 6
exit_code NoMemory = 7
exit_code (Ended cause) = 9

unfoldable pub cause_name : EndCause → List ℕ
cause_name Logout = codes "Logout"
cause_name TooLow = codes "TooLow"
cause_name NotLogon = codes "NotLogon"
cause_name BadLogon = codes "BadLogon"
cause_name NoNumber = codes "NoNumber"
cause_name WrongName = codes "WrongName"
cause_name Silent = codes "Silent"
cause_name TooLong = codes "TooLong"

-- what is told of a status, behind the program's name
abbrev pub told_of : MarketStatus → List ℕ
told_of Done = []
told_of BadWords = codes "bad words"
told_of (BadConfig line cause) = codes "line " ++ (decimal line ++ (codes ": " ++ line_cause_name cause))
told_of (LimitConfig line which) = codes "line " ++ (decimal line ++ (codes ": limit " ++ limit_name which))
told_of LimitBytes = codes "limit Bytes"
told_of (Ended cause) = codes "session " ++ cause_name cause
told_of ReadFault = codes "read fault"
told_of WriteFault = codes "write fault"
told_of NoMemory = codes "out of memory"

-- the statuses that yield to a failed put of their text: words and configs that are refused
abbrev pub yields : MarketStatus → Bool
yields BadWords = true
yields (BadConfig line cause) = true
yields (LimitConfig line which) = true
yields _ = false

-- the name of the program
abbrev pub program : List ℕ
program = codes "pegmarket"

-- what is put to the second sink
abbrev pub status_text : MarketStatus → List ℕ
status_text status = line_of program (told_of status)

-- what a status is after its text was put to the second sink
abbrev pub IsTold : MarketStatus → MarketStatus → Option (List ℕ) → Option (List ℕ) → ℕ → ℕ → Type 0
IsTold status result old new before now =
    Told (status_text status) (after_failure (yields status) status WriteFault) status result old new before now
