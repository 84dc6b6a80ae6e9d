-- What is kept of the messages that were sent, by the list of the application messages among them.
use Rattle.std.specs.Prelude.{ℕ, zero, suc, ◌+◌, ◌<◌, ℤ, pos, List, [], ◌∷◌, get_or, map, replicate, Option, Some, None, ⊤}
use Rattle.fix_write.specs.declared.message_type.MessageType.TheVariants.{Other}
use Rattle.session_core.specs.declared.message.Kept.{Kept}
use Rattle.session_core.specs.declared.message.Message.{Message}
use Rattle.session_core.specs.Bodies.{message}

-- a place among so many application messages, or that of a message of the session, which has none
abbrev pub IsAmong : ℕ → Option ℕ → Type 0
IsAmong count None = ⊤
IsAmong count (Some place) = place < count

-- the message at a place, with its moment
abbrev pub kept_at : List Message → List ℤ → ℕ → Kept
kept_at messages moments place =
    record { message = get_or messages place (message (Other 0) []); moment = get_or moments place (pos 0) }

abbrev pub entry_in : List Message → List ℤ → Option ℕ → Option Kept
entry_in messages moments None = None
entry_in messages moments (Some place) = Some (kept_at messages moments place)

abbrev pub entries_in : List Message → List ℤ → List (Option ℕ) → List (Option Kept)
entries_in messages moments places = map (entry_in messages moments) places

-- the places of so many messages of the session
abbrev pub no_places : ℕ → List (Option ℕ)
no_places count = replicate count None

-- so many places, from this one on
abbrev pub places_from : ℕ → ℕ → List (Option ℕ)
places_from first zero = []
places_from first (suc count) = Some first ∷ places_from (first + 1) count
