-- What the lines of a header say, and the first cause why one is refused.
use Rattle.std.specs.Prelude.{ℕ, ◌+◌, ◌==◌, Bool, true, false, List, [], ◌∷◌, ◌++◌, length, Option, Some, None, Result, Ok, Err, nat_lt, nat_le, sum, if◌then◌else◌, codes, not, ℤ, pos}
use Rattle.std.specs.List.{list_any}
use Rattle.std.specs.Str.{bytes_eq}
use Rattle.venue_words.specs.declared.config.Config.{Config}
use Rattle.script_text.specs.declared.header.Header.{Header}
use Rattle.script_text.specs.declared.fault.LineFault.{LineFault}
use Rattle.script_text.specs.declared.fault.LineFault.TheVariants.{Bad, Limit}
use Rattle.script_text.specs.declared.fault.LineCause.{LineCause}
use Rattle.script_text.specs.declared.fault.LineCause.TheVariants.{BadHeader, BadWord, BadName, DoubleName, BadNumber, BadTick, BadMoment}
use Rattle.script_text.specs.declared.fault.LimitCause.{LimitCause}
use Rattle.script_text.specs.declared.fault.LimitCause.TheVariants.{Line, Members, Markets, Symbols, EventsSum}
use Rattle.venue_words.specs.declared.limits.TheConstants.{MAX_EVENTS, MAX_LINE_BYTES, MAX_MARKETS, MAX_MEMBERS, MAX_SYMBOLS}
use Rattle.quote_intake.specs.Words.{words_of}
use Rattle.script_text.specs.Words.{is_name, limit_of, tick_of, script_moment}

-- whether the header is complete with this line, and what it says by then
abbrev pub Step : Type 0
Step = Result (Bool × Header) LineFault

abbrev pub refused : ℕ → LineCause → Step
refused n cause = Err (Bad n cause)

abbrev pub past : ℕ → LimitCause → Step
past n which = Err (Limit n which)

abbrev pub goes_on : Header → Step
goes_on header = Ok (false, header)

-- a name in its form that did not stand before
unfoldable pub name_cause : List (List ℕ) → List ℕ → Option LineCause
name_cause names name = if not (is_name name) then Some BadName
    else if list_any (λ old. bytes_eq old name) names then Some DoubleName else None

-- the line is refused by this cause, or says what follows
abbrev pub unless : ℕ → Option LineCause → Step → Step
unless n (Some cause) step = refused n cause
unless n None step = step

abbrev pub with_config : Header → Config → Header
with_config header config = record header { config = config }

abbrev pub with_member : Header → List ℕ → Header
with_member header name =
    with_config header (record header.config { members = header.config.members ++ name ∷ [] })

abbrev pub with_market : Header → List ℕ → Header
with_market header name =
    with_config header (record header.config { markets = header.config.markets ++ name ∷ [] })

abbrev pub with_symbol : Header → List ℕ → ℕ → ℕ → Header
with_symbol header name limit tick = with_config header (record header.config {
  symbols = header.config.symbols ++ name ∷ [];
  limits = header.config.limits ++ limit ∷ [];
  ticks = header.config.ticks ++ tick ∷ [];
})

unfoldable pub member_line : ℕ → Header → List ℕ → Step
member_line n header name = unless n (name_cause header.config.members name)
    (if nat_le MAX_MEMBERS (length header.config.members) then past n Members
    else goes_on (with_member header name))

unfoldable pub market_line : ℕ → Header → List ℕ → Step
market_line n header name = unless n (name_cause header.config.markets name)
    (if nat_le MAX_MARKETS (length header.config.markets) then past n Markets
    else goes_on (with_market header name))

abbrev pub symbol_fits : ℕ → Header → List ℕ → ℕ → ℕ → Step
symbol_fits n header name limit tick =
    if nat_le MAX_SYMBOLS (length header.config.symbols) then past n Symbols
    else if nat_lt MAX_EVENTS (sum header.config.limits + limit) then past n EventsSum
    else goes_on (with_symbol header name limit tick)

abbrev pub symbol_numbers : ℕ → Header → List ℕ → Option ℕ → Option ℕ → Step
symbol_numbers n header name None tick = refused n BadNumber
symbol_numbers n header name (Some limit) None = refused n BadTick
symbol_numbers n header name (Some limit) (Some tick) = symbol_fits n header name limit tick

unfoldable pub symbol_line : ℕ → Header → List ℕ → List ℕ → Option ℕ → Step
symbol_line n header name limit tick = unless n (name_cause header.config.symbols name)
    (symbol_numbers n header name (limit_of limit) tick)

abbrev pub begins : ℕ → Header → Option ℤ → Step
begins n header None = refused n BadMoment
begins n header (Some moment) =
    Ok (true, with_config header (record header.config { begin = moment }))

unfoldable pub begin_line : ℕ → Header → List ℕ → Step
begin_line n header moment = begins n header (script_moment moment)

-- the words behind `SYMBOL`: the tick is 0.01 in version 1 and stands there in version 2
abbrev pub symbol_words : ℕ → Header → List (List ℕ) → Step
symbol_words n header (name ∷ limit ∷ []) =
    if header.version == 1 then symbol_line n header name limit (Some 2) else refused n BadWord
symbol_words n header (name ∷ limit ∷ tick ∷ []) =
    if header.version == 2 then symbol_line n header name limit (tick_of tick) else refused n BadWord
symbol_words n header _ = refused n BadWord

abbrev pub one_word : ℕ → (List ℕ → Step) → List (List ℕ) → Step
one_word n line (word ∷ []) = line word
one_word n line _ = refused n BadWord

unfoldable pub keyed_else : ℕ → Header → List ℕ → List (List ℕ) → Step
keyed_else n header key words =
    if bytes_eq key (codes "SYMBOL") then symbol_words n header words
    else if bytes_eq key (codes "BEGIN") then one_word n (begin_line n header) words
    else refused n BadWord

unfoldable pub keyed : ℕ → Header → List ℕ → List (List ℕ) → Step
keyed n header key words =
    if bytes_eq key (codes "MEMBER") then one_word n (member_line n header) words
    else if bytes_eq key (codes "MARKET") then one_word n (market_line n header) words
    else keyed_else n header key words

abbrev pub keyed_line : ℕ → Header → List (List ℕ) → Step
keyed_line n header [] = refused n BadWord
keyed_line n header (key ∷ words) = keyed n header key words

abbrev pub with_version : Header → ℕ → Header
with_version header version = record header { version = version }

unfoldable pub first_line : Header → List ℕ → Step
first_line header text = if bytes_eq text (codes "PEGV 1") then goes_on (with_version header 1)
    else if bytes_eq text (codes "PEGV 2") then goes_on (with_version header 2)
    else refused 1 BadHeader

-- the n-th line of a header
unfoldable pub header_line : ℕ → Header → List ℕ → Step
header_line n header text = if nat_lt MAX_LINE_BYTES (length text) then past n Line
    else if n == 1 then first_line header text else keyed_line n header (words_of text)

-- an answer with the header after the call
abbrev pub with_header : Result Bool LineFault → Header → Step
with_header (Ok whole) header = Ok (whole, header)
with_header (Err fault) header = Err fault

-- the header before its first line
abbrev pub blank : Header
blank = record {
  version = 0;
  config = record { members = []; markets = []; symbols = []; limits = []; ticks = []; begin = pos 0 };
}
