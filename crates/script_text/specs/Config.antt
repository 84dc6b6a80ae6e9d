-- What a config says: a header alone.
use Rattle.std.specs.Prelude.{ℕ, ◌+◌, List, [], ◌∷◌, length, Result, Ok, Err, nat_lt, if◌then◌else◌}
use Rattle.venue_words.specs.declared.limits.TheConstants.{MAX_LINE_BYTES}
use Rattle.venue_words.specs.declared.config.Config.{Config}
use Rattle.script_text.specs.declared.header.Header.{Header}
use Rattle.script_text.specs.declared.fault.LineFault.{LineFault}
use Rattle.script_text.specs.declared.fault.LineFault.TheVariants.{Bad, Limit}
use Rattle.script_text.specs.declared.fault.LineCause.TheVariants.{NoEnd, BadHeader}
use Rattle.script_text.specs.declared.fault.LimitCause.TheVariants.{Line}
use Rattle.script_text.specs.Header.{Step, header_line, blank}
use Rattle.script_text.specs.Lines.{cut}

abbrev pub Answer : Type 0
Answer = Result (Config × ℕ) LineFault

-- the n-th line has no end
abbrev pub unended : ℕ → List ℕ → LineFault
unended n rest = if nat_lt MAX_LINE_BYTES (length rest) then Limit n Line else Bad n NoEnd

-- the n-th line is one too many
abbrev pub unwanted : ℕ → List ℕ → LineFault
unwanted n line = if nat_lt MAX_LINE_BYTES (length line) then Limit n Line else Bad n BadHeader

-- a header of n lines, with what stands behind it
abbrev pub whole_of : ℕ → Config → List (List ℕ) → List ℕ → Answer
whole_of n config [] [] = Ok (config, n)
whole_of n config [] (b ∷ rest) = Err (unended (n + 1) (b ∷ rest))
whole_of n config (line ∷ lines) rest = Err (unwanted (n + 1) line)

abbrev pub on_line : ℕ → Step → List (List ℕ) → List ℕ → (Header → Answer) → Answer
on_line n (Ok x) lines rest next = if x.0 then whole_of n x.1.config lines rest else next x.1
on_line n (Err fault) lines rest next = Err fault

-- the lines behind n lines of a header
unfoldable pub header_of : ℕ → Header → List (List ℕ) → List ℕ → Answer
header_of n header [] rest = Err (unended (n + 1) rest)
header_of n header (line ∷ lines) rest = on_line (n + 1) (header_line (n + 1) header line) lines rest
    (λ header. header_of (n + 1) header lines rest)

unfoldable pub header_text : ℕ → Header → List ℕ → Answer
header_text n header text = header_of n header (cut text).lines (cut text).rest

unfoldable pub behind_text : ℕ → Config → List ℕ → Answer
behind_text n config text = whole_of n config (cut text).lines (cut text).rest

-- the config that a text says, with the number of its lines
abbrev pub config_of : List ℕ → Answer
config_of text = header_text 0 blank text
