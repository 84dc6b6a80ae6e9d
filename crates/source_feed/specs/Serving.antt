-- What goes from a source to a desk in one session.
use Rattle.std.specs.Prelude.{◌≡◌, ℕ, ℤ, List, [], ◌∷◌, ◌++◌, Option}
use Rattle.std.specs.Io.KnownBytes.{Appends}
use Rattle.io_edge.specs.Grows.{AppendsPrefix}
use Rattle.io_edge.specs.Links.{Answer, piece, quiet, ended, Told, Tells}
use Rattle.venue_words.specs.declared.command.Command.TheVariants.{Quote}
use Rattle.venue_words.specs.declared.config.Config.{Config}
use Rattle.market_data.specs.Lines.{quote_line}
use Rattle.quote_flow.specs.declared.quote.MarketQuote.{MarketQuote}
use Rattle.quote_flow.specs.Tables.{Table, turned, passed}
use Rattle.source_session.specs.declared.names.Names.{Names}
use Rattle.source_session.specs.Quotes.{quotes_said}
use Rattle.source_feed.specs.declared.end.FeedEnd.{FeedEnd}
use Rattle.source_feed.specs.declared.end.FeedEnd.TheVariants.{DeskFault, NoMemory}

-- ---- lines

-- the line of a quote: Q SYMBOL MARKET BID OFFER
abbrev pub line_of : Config → MarketQuote → List ℕ
line_of config quote = quote_line config quote.symbol (Quote quote.market quote.sides.bid quote.sides.offer)

abbrev pub lines_of : Config → List MarketQuote → List ℕ
lines_of config [] = []
lines_of config (quote ∷ quotes) = line_of config quote ++ lines_of config quotes

-- ---- what a link gave

abbrev pub bytes_in : List Answer → List ℕ
bytes_in [] = []
bytes_in (piece bytes ∷ answers) = bytes ++ bytes_in answers
bytes_in (quiet ∷ answers) = bytes_in answers
bytes_in (ended ∷ answers) = bytes_in answers

-- a link that tells gave these bytes
pub record GaveBytes (came : List ℕ) (old new : Told) : Type 0 where
  pub answers : List Answer
  pub more : new.answers ≡ old.answers ++ answers
  pub bytes : bytes_in answers ≡ came

-- ---- turns

-- quotes that came together, and the moment then
pub record Turn : Type 0 where
  pub moment : ℤ
  pub quotes : List MarketQuote

-- all quotes that came
abbrev pub quotes_in : List Turn → List MarketQuote
quotes_in [] = []
quotes_in (turn ∷ turns) = turn.quotes ++ quotes_in turns

-- what is known after turns, and what passes in them
abbrev pub table_after : Table → List Turn → Table
table_after table [] = table
table_after table (turn ∷ turns) = table_after (turned table turn.moment turn.quotes) turns

abbrev pub passed_in : Table → List Turn → List MarketQuote
passed_in table [] = []
passed_in table (turn ∷ turns) =
    passed table turn.moment turn.quotes ++ passed_in (turned table turn.moment turn.quotes) turns

-- quotes that pass so many milliseconds apart, or all where there is no pace
abbrev pub table_of : Option ℕ → Table
table_of pace = record { pace = pace; slots = [] }

-- ---- sessions

-- these lines were put; where the desk failed a beginning of them
abbrev pub PutBy : FeedEnd → Option (List ℕ) → Option (List ℕ) → List ℕ → Type 0
PutBy DeskFault old new text = AppendsPrefix old new text
PutBy _ old new text = Appends old new text

-- where memory ran out the last bytes may be lost, and else none are
abbrev pub LosesOnly : FeedEnd → List ℕ → Type 0
LosesOnly NoMemory lost = Unit {0}
LosesOnly _ lost = lost ≡ []

-- one session: the link gave bytes, their quotes came in turns, and the lines of those that passed were put to the desk, in order,
-- each once
pub record Serves (config : Config) (names : Names) (pace : Option ℕ) (link link_now : Option Told) (desk desk_now : Option (List ℕ)) (end : FeedEnd) : Type 0 where
  pub came : List ℕ
  pub lost : List ℕ
  pub gave : Tells (GaveBytes (came ++ lost)) link link_now
  pub turns : List Turn
  pub quotes : quotes_in turns ≡ quotes_said config names came
  pub put : PutBy end desk desk_now (lines_of config (passed_in (table_of pace) turns))
  pub loses : LosesOnly end lost
