-- What a line that holds the byte past a limit on bytes comes to.
use Rattle.std.specs.Prelude.{ℕ, Result, Ok, Err, nat_lt, if◌then◌else◌}
use Rattle.script_text.specs.declared.fault.LineFault.{LineFault}
use Rattle.script_text.specs.declared.fault.LineFault.TheVariants.{Bad, Limit, NoMemory}
use Rattle.script_text.specs.declared.fault.LimitCause.{LimitCause}
use Rattle.script_text.specs.declared.fault.LimitCause.TheVariants.{Line, Bytes}

-- a bad line and a long one stay what they are, and each other limit comes behind that on bytes
abbrev pub over_limit : LimitCause → LimitCause
over_limit Line = Line
over_limit _ = Bytes

abbrev pub over_fault : LineFault → LineFault
over_fault (Bad line cause) = Bad line cause
over_fault (Limit line which) = Limit line (over_limit which)
over_fault NoMemory = NoMemory

-- what the n-th line comes to, by what it came to without the limit
abbrev pub over : {T : Type 0} → ℕ → Result T LineFault → LineFault
over n (Ok x) = Limit n Bytes
over n (Err fault) = over_fault fault

-- the n-th line, which ends at this number of bytes, under the limit
abbrev pub weighed : {T : Type 0} → ℕ → ℕ → ℕ → Result T LineFault → Result T LineFault
weighed most n bytes result = if nat_lt most bytes then Err (over n result) else result
