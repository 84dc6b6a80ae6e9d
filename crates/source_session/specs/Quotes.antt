-- The quotes that the messages of a source stand for.
use Rattle.std.specs.Prelude.{ℕ, if◌then◌else◌, List, [], ◌∷◌, ◌++◌, Result, Ok, Err}
use Rattle.venue_words.specs.declared.command.Command.{Command}
use Rattle.venue_words.specs.declared.command.Command.TheVariants.{Quote}
use Rattle.venue_words.specs.declared.config.Config.{Config}
use Rattle.fix_fields.specs.Content.{content_of}
use Rattle.fix_fields.specs.declared.field.Field.{Field}
use Rattle.fix_fields.specs.declared.field.FieldFault.{FieldFault}
use Rattle.fix_fields.specs.Fields.{split}
use Rattle.fix_frames.specs.Reading.{reading_of}
use Rattle.market_data.specs.Snapshots.{Meant, snapshot_of}
use Rattle.quote_flow.specs.declared.quote.MarketQuote.{MarketQuote}
use Rattle.source_session.specs.declared.message.Asks.{Asks}
use Rattle.source_session.specs.declared.message.Asks.TheVariants.{Quotes}
use Rattle.source_session.specs.declared.names.Names.{Names}
use Rattle.source_session.specs.declared.state.SourceState.{SourceState}
use Rattle.source_session.specs.Messages.{first, is_over, on_fields}

-- a quote of a symbol; a snapshot has no other commands than quotes
abbrev pub quote_by : ℕ → Command → List MarketQuote
quote_by symbol (Quote market bid offer) =
    record { symbol = symbol; market = market; sides = record { bid = bid; offer = offer } } ∷ []
quote_by symbol _ = []

abbrev pub quotes_by : ℕ → List Command → List MarketQuote
quotes_by symbol [] = []
quotes_by symbol (command ∷ commands) = quote_by symbol command ++ quotes_by symbol commands

-- the quotes of a snapshot; one that is refused has none
abbrev pub quotes_meant : Meant → List MarketQuote
quotes_meant (Ok snapshot) = quotes_by snapshot.symbol snapshot.quotes
quotes_meant (Err failed) = []

-- the quotes of a message, where it is a snapshot whose turn it is
abbrev pub said_by : Config → Asks → List Field → List MarketQuote
said_by config Quotes fields = quotes_meant (snapshot_of fields config)
said_by config _ fields = []

-- the state after a message, and its quotes
pub record Heard : Type 0 where
  pub state : SourceState
  pub quotes : List MarketQuote

abbrev pub nothing_heard : SourceState → Heard
nothing_heard state = record { state = state; quotes = [] }

-- where a frame's content does not split into fields nothing happens
abbrev pub hears_fields : Config → Names → SourceState → Result (List Field) FieldFault → Heard
hears_fields config names state (Err fault) = nothing_heard state
hears_fields config names state (Ok fields) =
    record {
      state = (on_fields names state fields).state;
      quotes = said_by config (on_fields names state fields).asks fields;
    }

-- a frame; once the connection has ended none says anything
unfoldable pub hears_frame : Config → Names → SourceState → List ℕ → Heard
hears_frame config names state frame =
    if is_over state.phase then nothing_heard state else hears_fields config names state (split (content_of frame))

-- frames, one after the other
abbrev pub heard_all : Config → Names → SourceState → List (List ℕ) → Heard
heard_all config names state [] = nothing_heard state
heard_all config names state (frame ∷ frames) =
    let one = hears_frame config names state frame in
    let more = heard_all config names one.state frames in
    record { state = more.state; quotes = one.quotes ++ more.quotes }

-- the quotes that the bytes of a connection stand for: those of the snapshots whose turn it was, in order, until it ended
unfoldable pub quotes_said : Config → Names → List ℕ → List MarketQuote
quotes_said config names bytes = (heard_all config names first (reading_of bytes).frames).quotes
