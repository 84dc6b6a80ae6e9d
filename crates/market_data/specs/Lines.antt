-- The lines of a feed that quotes make.
use Rattle.std.specs.Prelude.{ℕ, ℤ, if◌then◌else◌, List, [], ◌∷◌, ◌++◌, map, Option, Some, None, Ok, Err, codes, option_and_then}
use Rattle.std.specs.List.{flat_map}
use Rattle.std.specs.Ordering.{int_eq}
use Rattle.venue_words.specs.declared.command.Command.{Command}
use Rattle.venue_words.specs.declared.command.Command.TheVariants.{Quote}
use Rattle.venue_words.specs.declared.config.Config.{Config}
use Rattle.fix_fields.specs.Forms.{moment_of}
use Rattle.fix_write.specs.declared.message_type.MessageType.{MessageType}
use Rattle.fix_write.specs.declared.message_type.MessageType.TheVariants.{MarketDataSnapshot}
use Rattle.fix_write.specs.declared.tags.TheConstants.{SENDING_TIME}
use Rattle.fix_write.specs.Moments.{moment_text}
use Rattle.member_gate.specs.Answering.{name_at}
use Rattle.quote_text.specs.Sides.{side_text}
use Rattle.session_core.specs.declared.message.Request.{Request}
use Rattle.session_core.specs.Lookup.{value_of}
use Rattle.market_data.specs.declared.snapshots.Snapshot.{Snapshot}
use Rattle.market_data.specs.Snapshots.{Meant, snapshot_of}

-- a quote of a symbol at the moment of its message
pub record TimedQuote : Type 0 where
  pub moment : ℤ
  pub symbol : ℕ
  pub quote : Command

-- ---- the quotes of messages

-- the moment of a message: its SendingTime, cut to milliseconds
unfoldable pub sending_time : Request → Option ℤ
sending_time request = option_and_then moment_of (value_of SENDING_TIME request.fields)

-- the quotes of a snapshot at a moment
abbrev pub timed : ℤ → Snapshot → List TimedQuote
timed moment snapshot = map (λ quote. record { moment = moment; symbol = snapshot.symbol; quote = quote }) snapshot.quotes

-- a snapshot that is refused gives none; every message that a session hands out has a moment
abbrev pub timed_if : Meant → Option ℤ → List TimedQuote
timed_if (Err failed) moment = []
timed_if (Ok snapshot) None = []
timed_if (Ok snapshot) (Some moment) = timed moment snapshot

-- by its type: those of a snapshot that is taken
abbrev pub quotes_by_type : MessageType → Config → Request → List TimedQuote
quotes_by_type MarketDataSnapshot config request =
    timed_if (snapshot_of request.fields config) (sending_time request)
quotes_by_type _ config request = []

-- the quotes of a message
unfoldable pub quotes_in : Config → Request → List TimedQuote
quotes_in config request = quotes_by_type request.kind config request

-- those of the message that a turn hands out, if any
abbrev pub handed_quotes : Config → Option Request → List TimedQuote
handed_quotes config None = []
handed_quotes config (Some request) = quotes_in config request

abbrev pub all_quotes : Config → List Request → List TimedQuote
all_quotes config requests = flat_map (quotes_in config) requests

-- ---- the lines of quotes

-- T MOMENT
abbrev pub moment_line : ℤ → List ℕ
moment_line moment = codes "T " ++ (moment_text moment ++ 10 ∷ [])

-- Q SYMBOL MARKET BID OFFER; a snapshot has no other commands than quotes
abbrev pub quote_line : Config → ℕ → Command → List ℕ
quote_line config symbol (Quote market bid offer) =
    codes "Q "
    ++ (name_at config.symbols symbol ++ 32 ∷ [])
    ++ (name_at config.markets market ++ 32 ∷ [])
    ++ (side_text bid ++ 32 ∷ [])
    ++ (side_text offer ++ 10 ∷ [])
quote_line config symbol _ = []

-- the T line before a quote, where another moment or none stands before it
abbrev pub moment_if : Option ℤ → ℤ → List ℕ
moment_if None moment = moment_line moment
moment_if (Some last) moment = if int_eq last moment then [] else moment_line moment

-- the lines of quotes behind a last moment
abbrev pub lines_from : Config → Option ℤ → List TimedQuote → List ℕ
lines_from config last [] = []
lines_from config last (one ∷ others) =
    moment_if last one.moment ++ quote_line config one.symbol one.quote
    ++ lines_from config (Some one.moment) others

-- the moment that stands last behind them
abbrev pub last_moment : Option ℤ → List TimedQuote → Option ℤ
last_moment last [] = last
last_moment last (one ∷ others) = last_moment (Some one.moment) others

-- the lines of quotes: each stands behind its moment
abbrev pub feed_lines : Config → List TimedQuote → List ℕ
feed_lines config quotes = lines_from config None quotes
