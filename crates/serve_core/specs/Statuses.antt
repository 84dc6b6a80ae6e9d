-- What is told of a status, and the exit status of a run.
use Rattle.std.specs.Prelude.{ℕ, List, [], ◌++◌, take, codes, decimal, slice_index_or}
use Rattle.script_text.specs.Causes.{cause_name, limit_name}
use Rattle.serve_core.specs.declared.quotes.QuoteEnd.{QuoteEnd}
use Rattle.serve_core.specs.declared.quotes.QuoteEnd.TheVariants as quotes
use Rattle.serve_core.specs.declared.setup.SetupFault.{SetupFault}
use Rattle.serve_core.specs.declared.setup.SetupFault.TheVariants as setup
use Rattle.serve_core.specs.declared.status.ServeStatus.{ServeStatus}
use Rattle.serve_core.specs.declared.status.ServeStatus.TheVariants.{Done, BadWords, BadLine, LimitLine, ReadFault, WriteFault, NoMemory, Full, ListenFault}

-- what is told behind the program's name; a symbol's name has at most 16 bytes
abbrev pub told_of : ServeStatus → List ℕ
told_of Done = []
told_of BadWords = codes "bad words"
told_of (BadLine line cause) = codes "line " ++ (decimal line ++ (codes ": " ++ cause_name cause))
told_of (LimitLine line which) = codes "line " ++ (decimal line ++ (codes ": limit " ++ limit_name which))
told_of ReadFault = codes "read fault"
told_of WriteFault = codes "write fault"
told_of NoMemory = codes "out of memory"
told_of (Full symbol) = codes "full " ++ take 16 symbol.now
told_of ListenFault = codes "listen fault"

abbrev pub exit_code : ServeStatus → ℕ
exit_code Done = 0
exit_code BadWords = 2
exit_code (BadLine line cause) = 3
exit_code (LimitLine line which) = 4
exit_code ReadFault = 5
exit_code WriteFault = 6
exit_code NoMemory = 7
exit_code (Full symbol) = 8
exit_code ListenFault = 13

-- of a run that does not begin
abbrev pub status_of_setup : SetupFault → ServeStatus
status_of_setup setup.BadWords = BadWords
status_of_setup (setup.BadLine line cause) = BadLine line cause
status_of_setup (setup.LimitLine line which) = LimitLine line which
status_of_setup setup.ReadFault = ReadFault
status_of_setup setup.NoMemory = NoMemory

-- ---- a run whose quotes ended so, where nothing else went wrong

abbrev pub exit_of_quotes : QuoteEnd → ℕ
exit_of_quotes quotes.Done = 0
exit_of_quotes (quotes.BadLine line cause) = 3
exit_of_quotes (quotes.LimitLine line which) = 4
exit_of_quotes (quotes.Full symbol found) = 8
exit_of_quotes quotes.ReadFault = 5
exit_of_quotes quotes.NoMemory = 7

-- a full symbol is told by its name
abbrev pub told_of_quotes : List (List ℕ) → QuoteEnd → List ℕ
told_of_quotes symbols quotes.Done = told_of Done
told_of_quotes symbols (quotes.BadLine line cause) = told_of (BadLine line cause)
told_of_quotes symbols (quotes.LimitLine line which) = told_of (LimitLine line which)
told_of_quotes symbols (quotes.Full symbol found) = codes "full " ++ take 16 (slice_index_or symbols symbol [])
told_of_quotes symbols quotes.ReadFault = told_of ReadFault
told_of_quotes symbols quotes.NoMemory = told_of NoMemory
