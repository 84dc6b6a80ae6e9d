-- What a line of a body says, and the first cause why it is refused.
use Rattle.std.specs.Prelude.{ℕ, ◌<◌, ◌≡◌, true, List, [], ◌∷◌, length, Option, Some, None, option_map, Result, Ok, Err, nat_eq, nat_lt, if◌then◌else◌, codes}
use Rattle.std.specs.Option.{ok_or}
use Rattle.std.specs.List.{ends_with}
use Rattle.std.specs.Str.{bytes_eq}
use Rattle.venue_words.specs.declared.limits.TheConstants.{MAX_LINE_BYTES}
use Rattle.venue_words.specs.declared.config.Config.{Config}
use Rattle.venue_words.specs.declared.command.Command.{Command}
use Rattle.venue_words.specs.Conditions.{fits_limits}
use Rattle.venue_words.specs.Floors.{setup_of, is_configured}
use Rattle.quote_intake.specs.declared.quotes.QuoteFault.{QuoteFault}
use Rattle.quote_intake.specs.declared.quotes.QuoteFault.TheVariants as quote
use Rattle.quote_intake.specs.Quote.{number_in, quote_in}
use Rattle.quote_intake.specs.Words.{words_of}
use Rattle.fix_write.specs.Framing.{wrapped}
use Rattle.script_text.specs.declared.body.Line.{Line}
use Rattle.script_text.specs.declared.body.Line.TheVariants.{Moment, Quote, Piece, Open}
use Rattle.script_text.specs.declared.fault.LineFault.{LineFault}
use Rattle.script_text.specs.declared.fault.LineFault.TheVariants.{Bad, Limit}
use Rattle.script_text.specs.declared.fault.LineCause.{LineCause}
use Rattle.script_text.specs.declared.fault.LineCause.TheVariants.{BadWord, UnknownName, BadPrice, BadMoment, BadText}
use Rattle.script_text.specs.declared.fault.LimitCause.TheVariants as limit
use Rattle.script_text.specs.Escaping.{text_of}
use Rattle.script_text.specs.Words.{script_moment, behind_word}

-- what a line says, or the first cause why it is refused
abbrev pub Read : Type 0
Read = Result Line LineCause

-- the words behind `T`: MOMENT
abbrev pub moment_line : List (List ℕ) → Read
moment_line (moment ∷ []) = ok_or (option_map Moment (script_moment moment)) BadMoment
moment_line _ = Err BadWord

abbrev pub quote_cause : QuoteFault → LineCause
quote_cause quote.BadWord = BadWord
quote_cause quote.UnknownName = UnknownName
quote_cause quote.BadPrice = BadPrice

abbrev pub quote_read : Result (ℕ × Command) QuoteFault → Read
quote_read (Ok read) = Ok (Quote read.0 read.1)
quote_read (Err fault) = Err (quote_cause fault)

-- the words behind `Q`: SYMBOL MARKET BID OFFER
abbrev pub quote_line : Config → List (List ℕ) → Read
quote_line config words = quote_read (quote_in words config)

-- bytes for the stream of a member: a name that is not configured stands before a text that is none
abbrev pub piece_read : Option ℕ → Option (List ℕ) → Read
piece_read None bytes = Err UnknownName
piece_read (Some member) None = Err BadText
piece_read (Some member) (Some bytes) = Ok (Piece member bytes)

-- the words behind `M` or `B`, MEMBER and what goes on to the line's end, which stands for these bytes
abbrev pub piece_line : (List ℕ → Option (List ℕ)) → Config → List (List ℕ) → List ℕ → Read
piece_line bytes_of config (member ∷ _ ∷ _) text =
    piece_read (number_in config.members member) (bytes_of (behind_word member text))
piece_line bytes_of config _ text = Err BadWord

-- the frame of a message, whose text ends with a bar
unfoldable pub message_of : List ℕ → Option (List ℕ)
message_of text = if ends_with nat_eq text (codes "|") then option_map wrapped (text_of text) else None

-- the words behind `O`: MEMBER
abbrev pub open_line : Config → List (List ℕ) → Read
open_line config (member ∷ []) = ok_or (option_map Open (number_in config.members member)) UnknownName
open_line config _ = Err BadWord

-- a line by its first word, the words behind that one, and the text behind it
unfoldable pub keyed_body : Config → List ℕ → List (List ℕ) → List ℕ → Read
keyed_body config key words text =
    if bytes_eq key (codes "T") then moment_line words
    else if bytes_eq key (codes "Q") then quote_line config words
    else if bytes_eq key (codes "M") then piece_line message_of config words text
    else if bytes_eq key (codes "B") then piece_line text_of config words text
    else if bytes_eq key (codes "O") then open_line config words
    else Err BadWord

abbrev pub body_words : Config → List (List ℕ) → List ℕ → Read
body_words config [] text = Err BadWord
body_words config (key ∷ words) text = keyed_body config key words (behind_word key text)

-- a line of a body, without its LF
unfoldable pub line_of : Config → List ℕ → Read
line_of config text = body_words config (words_of text) text

-- the same as the n-th line
abbrev pub at_line : ℕ → Read → Result Line LineFault
at_line n (Ok line) = Ok line
at_line n (Err cause) = Err (Bad n cause)

-- the answer to a line: its length is tested first
unfoldable pub read_of : Config → List ℕ → Result Line LineFault
read_of config text = if nat_lt MAX_LINE_BYTES (length text) then Err (Limit 1 limit.Line) else at_line 1 (line_of config text)

-- what a line names is configured, and its quote keeps to the limits
pub record IsQuoteOf (config : Config) (symbol : ℕ) (command : Command) : Type 0 where
  pub within : symbol < length config.symbols
  pub market : is_configured (setup_of config) command ≡ true
  pub limits : fits_limits command ≡ true

abbrev pub IsLineOf : Config → Line → Type 0
IsLineOf config (Moment moment) = Unit {0}
IsLineOf config (Quote symbol command) = IsQuoteOf config symbol command
IsLineOf config (Piece member bytes) = member < length config.members
IsLineOf config (Open member) = member < length config.members
