-- A connection to a source in the middle of its bytes.
use Rattle.std.specs.Prelude.{◌≡◌, ℕ, false, List, [], ◌++◌}
use Rattle.venue_words.specs.declared.config.Config.{Config}
use Rattle.fix_frames.specs.Reading.{none_yet, reading_of}
use Rattle.session_stream.specs.Hearing.{Reads}
use Rattle.quote_flow.specs.declared.quote.MarketQuote.{MarketQuote}
use Rattle.source_session.specs.declared.names.Names.{Names}
use Rattle.source_session.specs.declared.state.SourceState.{SourceState}
use Rattle.source_session.specs.Messages.{first, is_over}
use Rattle.source_session.specs.Quotes.{heard_all, quotes_said}

-- who speaks, how far the connection has come, and the bytes that are unread
pub record Hearing : Type 0 where
  pub names : Names
  pub state : SourceState
  pub unread : List ℕ

abbrev pub hearing_of : Names → SourceState → List ℕ → Hearing
hearing_of names state unread = record { names = names; state = state; unread = unread }

-- before the first byte
abbrev pub unheard : Names → Hearing
unheard names = hearing_of names first []

-- some frames of these bytes were taken, and the others are unread
pub record HasTaken (config : Config) (bytes : List ℕ) (hearing : Hearing) : Type 0 where
  pub frames : List (List ℕ)
  pub reads : Reads bytes frames hearing.unread
  pub state : hearing.state ≡ (heard_all config hearing.names first frames).state

-- all frames of these bytes were taken
pub record StandsFor (config : Config) (bytes : List ℕ) (hearing : Hearing) : Type 0 where
  pub taken : HasTaken config bytes hearing
  pub none : reading_of hearing.unread ≡ none_yet

-- a piece came after these bytes, of which no frame was taken yet
pub record IsFed (config : Config) (bytes piece : List ℕ) (hearing : Hearing) : Type 0 where
  pub taken : HasTaken config (bytes ++ piece) hearing
  pub quotes : (heard_all config hearing.names first taken.frames).quotes ≡ quotes_said config hearing.names bytes

-- a piece after these bytes: the quotes that it adds; and all its frames were taken, unless the connection has ended
pub record Adds (config : Config) (bytes piece : List ℕ) (added : List MarketQuote) (new : Hearing) : Type 0 where
  pub quotes : quotes_said config new.names (bytes ++ piece) ≡ quotes_said config new.names bytes ++ added
  pub stands : is_over new.state.phase ≡ false → StandsFor config (bytes ++ piece) new
