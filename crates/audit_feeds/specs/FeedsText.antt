-- What is told where a symbol's journal is not what its feeds ask.
use Rattle.std.specs.Prelude.{ℕ, ◌+◌, List, [], ◌∷◌, ◌++◌, length, codes, decimal, Option, Some, None, option_map}
use Rattle.venue_words.specs.declared.command.Event.{Event}
use Rattle.venue_words.specs.declared.config.Config.{Config}
use Rattle.feed_work.specs.Feeds.{Asked, commands_at}
use Rattle.listing.specs.Commands.{name_at}
use Rattle.listing.specs.Lines.{ended}
use Rattle.audit_core.specs.Telling.{Telling}
use Rattle.audit_feeds.specs.Departures.{events_of, first_outside, first_departure}
use Rattle.audit_feeds.specs.declared.departures.Departure.{Departure}

-- SYMBOL: event N is not command P of feed F, or SYMBOL: command P of feed F is missing; commands are counted from 1 in each symbol
abbrev pub what_departs : Option ℕ → List ℕ
what_departs None = []
what_departs (Some number) = codes "event " ++ decimal number ++ codes " is not "

abbrev pub what_misses : Option ℕ → List ℕ
what_misses None = codes " is missing"
what_misses (Some number) = []

unfoldable pub departure_line : List ℕ → ℕ → Departure → List ℕ
departure_line symbol feed departure =
    symbol
    ++ codes ": "
    ++ what_departs departure.event
    ++ codes "command "
    ++ decimal (departure.place + 1)
    ++ codes " of feed "
    ++ decimal feed
    ++ what_misses departure.event

unfoldable pub departure_text : List ℕ → ℕ → Option Departure → List ℕ
departure_text symbol feed None = []
departure_text symbol feed (Some departure) = ended (departure_line symbol feed departure)

-- of the feeds from one on
abbrev pub departures_from : List ℕ → ℕ → List Event → ℕ → List (List Asked) → List ℕ
departures_from name symbol journal feed [] = []
departures_from name symbol journal feed (commands ∷ feeds) =
    departure_text name feed (first_departure 0 (events_of feed journal) (commands_at symbol commands))
    ++ departures_from name symbol journal (feed + 1) feeds

-- SYMBOL: event N is of no feed
unfoldable pub outside_text : List ℕ → Option ℕ → List ℕ
outside_text symbol None = []
outside_text symbol (Some number) = ended (symbol ++ codes ": event " ++ decimal number ++ codes " is of no feed")

-- what is told of a symbol's journal: nothing, where it interleaves what the feeds ask of the symbol
unfoldable pub departures_text : List (List Asked) → Config → ℕ → List Event → List ℕ
departures_text feeds config symbol journal =
    outside_text (name_at config.symbols symbol) (option_map (λ event. event.number) (first_outside (length feeds) journal))
    ++ departures_from (name_at config.symbols symbol) symbol journal 1 feeds

abbrev pub departures_telling : List (List Asked) → Telling
departures_telling feeds = record { event = λ _ _ _. []; end = departures_text feeds }
