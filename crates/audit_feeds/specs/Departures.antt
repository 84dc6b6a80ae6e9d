-- Where a symbol's journal is not what its feeds ask.
use Rattle.std.specs.Prelude.{ℕ, ◌+◌, ◌==◌, Bool, not, ◌&&◌, nat_le, if◌then◌else◌, List, [], ◌∷◌, filter, find, Option, Some, None}
use Rattle.venue_words.specs.declared.command.Event.{Event}
use Rattle.eager_meaning.specs.Interleaving.{Timed}
use Rattle.audit_feeds.specs.Alike.{is_command}
use Rattle.audit_feeds.specs.declared.departures.Departure.{Departure}

-- the events of a feed
abbrev pub events_of : ℕ → List Event → List Event
events_of feed journal = filter (λ event. event.feed == feed) journal

abbrev pub departure : ℕ → Option ℕ → Departure
departure place event = record { place = place; event = event }

-- the first place, counted from this one, at which the events of a feed are not its commands, and the event that stands there, if one does
unfoldable pub first_departure : ℕ → List Event → List Timed → Option Departure
first_departure place [] [] = None
first_departure place [] (timed ∷ more) = Some (departure place None)
first_departure place (event ∷ later) [] = Some (departure place (Some event.number))
first_departure place (event ∷ later) (timed ∷ more) =
    if is_command event timed then first_departure (place + 1) later more else Some (departure place (Some event.number))

-- whether an event is of none of so many feeds, which are counted from 1
abbrev pub is_outside : ℕ → Event → Bool
is_outside count event = not (nat_le 1 event.feed && nat_le event.feed count)

-- the first event of none of the feeds
abbrev pub first_outside : ℕ → List Event → Option Event
first_outside count journal = find (is_outside count) journal
