-- What a file of quotes says, line by line.
use Rattle.std.specs.Prelude.{ℕ, ◌+◌, ◌==◌, Bool, false, List, [], ◌∷◌, ◌++◌, length, Option, Some, None, Result, Ok, Err, nat_lt, if◌then◌else◌}
use Rattle.venue_words.specs.declared.limits.TheConstants.{MAX_LINE_BYTES, MAX_SCRIPT_BYTES}
use Rattle.venue_words.specs.declared.config.Config.{Config}
use Rattle.member_gate.specs.Answering.{Submission}
use Rattle.script_text.specs.Body.{read_of}
use Rattle.script_text.specs.Config.{unended}
use Rattle.script_text.specs.Lines.{cut}
use Rattle.script_text.specs.declared.body.Line.{Line}
use Rattle.script_text.specs.declared.body.Line.TheVariants as line
use Rattle.script_text.specs.declared.fault.LineFault.{LineFault}
use Rattle.script_text.specs.declared.fault.LineFault.TheVariants.{Bad, Limit}
use Rattle.script_text.specs.declared.fault.LineCause.TheVariants.{BadWord}
use Rattle.script_text.specs.declared.fault.LimitCause.TheVariants as limit
use Rattle.line_reader.specs.Over.{over}
use Rattle.line_work.specs.Refusing.{fault_at}

-- ---- a line

-- why a line is refused that is no quote
abbrev pub no_quote : LineFault
no_quote = Bad 1 BadWord

-- what a line of a feed says, where it is a quote
abbrev pub only_quote : Result Line LineFault → Result Submission LineFault
only_quote (Ok (line.Quote symbol command)) = Ok (record { symbol = symbol; command = command })
only_quote (Ok (line.Moment moment)) = Err no_quote
only_quote (Ok (line.Piece member bytes)) = Err no_quote
only_quote (Ok (line.Open member)) = Err no_quote
only_quote (Err fault) = Err fault

-- the first byte is Q
abbrev pub begins_quote : List ℕ → Bool
begins_quote [] = false
begins_quote (b ∷ text) = b == 81

-- what a line says without its LF, as line 1: one that begins with Q is read as in a feed, and no other one is a quote
unfoldable pub quote_of : Config → List ℕ → Result Submission LineFault
quote_of config text =
    if nat_lt MAX_LINE_BYTES (length text) then Err (Limit 1 limit.Line)
    else if begins_quote text then only_quote (read_of config text) else Err no_quote

abbrev pub numbered : ℕ → Result Submission LineFault → Result Submission LineFault
numbered n (Ok quote) = Ok quote
numbered n (Err fault) = Err (fault_at n fault)

-- the n-th line, which holds the byte past the limit on the file's bytes or not
unfoldable pub nth_quote : Config → ℕ → Bool → List ℕ → Result Submission LineFault
nth_quote config n is_over text =
    numbered n (if is_over then Err (over n (quote_of config text)) else quote_of config text)

-- ---- a file

-- quotes up to the first line that is refused, and why it is
pub record Quotes : Type 0 where
  pub quotes : List Submission
  pub fault : Option LineFault

-- these quotes, and then the rest
abbrev pub behind : List Submission → Quotes → Quotes
behind quotes later = record { quotes = quotes ++ later.quotes; fault = later.fault }

abbrev pub after_quote : Result Submission LineFault → Quotes → Quotes
after_quote (Ok quote) later = behind (quote ∷ []) later
after_quote (Err fault) later = record { quotes = []; fault = Some fault }

-- bytes without an end, where the n-th line would be
abbrev pub rest_fault : ℕ → List ℕ → Option LineFault
rest_fault n [] = None
rest_fault n (b ∷ rest) = Some (unended n (b ∷ rest))

-- lines behind n lines that have so many bytes, and what stands behind them
unfoldable pub quotes_from : Config → ℕ → ℕ → List (List ℕ) → List ℕ → Quotes
quotes_from config n bytes [] rest = record { quotes = []; fault = rest_fault (n + 1) rest }
quotes_from config n bytes (line ∷ lines) rest =
    after_quote (nth_quote config (n + 1) (nat_lt MAX_SCRIPT_BYTES (bytes + length line + 1)) line)
    (quotes_from config (n + 1) (bytes + length line + 1) lines rest)

-- a text behind n lines that have so many bytes
unfoldable pub quotes_in : Config → ℕ → ℕ → List ℕ → Quotes
quotes_in config n bytes text = quotes_from config n bytes (cut text).lines (cut text).rest

-- a whole file
abbrev pub file_quotes : Config → List ℕ → Quotes
file_quotes config text = quotes_in config 0 0 text
