-- What one turn of a session does.
use Rattle.std.specs.Prelude.{◌≡◌, ℕ, false, ⊤, List, ◌++◌, Option}
use Rattle.std.specs.Io.KnownBytes.{Appends}
use Rattle.io_edge.specs.Grows.{AppendsPrefix}
use Rattle.io_edge.specs.Links.{Told, Tells}
use Rattle.venue_words.specs.declared.config.Config.{Config}
use Rattle.quote_flow.specs.declared.quote.MarketQuote.{MarketQuote}
use Rattle.quote_flow.specs.Tables.{Table}
use Rattle.source_session.specs.declared.names.Names.{Names}
use Rattle.source_session.specs.Hearing.{Hearing, StandsFor}
use Rattle.source_session.specs.Messages.{is_over}
use Rattle.source_session.specs.Quotes.{quotes_said}
use Rattle.source_feed.specs.declared.end.FeedEnd.{FeedEnd}
use Rattle.source_feed.specs.declared.end.FeedEnd.TheVariants.{DeskFault, NoMemory}
use Rattle.source_feed.specs.Serving.{GaveBytes, Turn, quotes_in, table_after, passed_in, table_of, lines_of}

-- a link gave these bytes, where it tells
abbrev pub Gave : List ℕ → Option Told → Option Told → Type 0
Gave came old new = Tells (GaveBytes came) old new

-- the session ended, and not by the desk
abbrev pub IsQuietEnd : FeedEnd → Type 0
IsQuietEnd DeskFault = ⊥
IsQuietEnd _ = ⊤

-- the desk failed, and a beginning of the lines was put; or memory ran out before that
abbrev pub IsPassEnd : FeedEnd → Option (List ℕ) → Option (List ℕ) → List ℕ → Type 0
IsPassEnd DeskFault old new text = AppendsPrefix old new text
IsPassEnd NoMemory old new text = new ≡ old
IsPassEnd _ old new text = ⊥

-- a piece after bytes that came: these are its quotes
pub record HearsPiece (config : Config) (came piece : List ℕ) (quotes : List MarketQuote) (new : Hearing) : Type 0 where
  pub said : quotes_said config new.names (came ++ piece) ≡ quotes_said config new.names came ++ quotes
  pub stands : is_over new.state.phase ≡ false → StandsFor config (came ++ piece) new

-- in the middle of a session, where the link gave these bytes: the lines of the quotes that passed were put
pub record Stands (config : Config) (names : Names) (pace : Option ℕ) (link link_now : Option Told) (desk desk_now : Option (List ℕ)) (hearing : Hearing) (table : Table) : Type 0 where
  pub came : List ℕ
  pub gave : Gave came link link_now
  pub names_are : hearing.names ≡ names
  pub stands : StandsFor config came hearing
  pub turns : List Turn
  pub quotes : quotes_in turns ≡ quotes_said config names came
  pub table_is : table ≡ table_after (table_of pace) turns
  pub put : Appends desk desk_now (lines_of config (passed_in (table_of pace) turns))
