-- What is asked of a day: of which symbol, and of which event.
use Rattle.std.specs.Prelude.{ℕ, Bool, if◌then◌else◌, List, [], Option, Some, None}
use Rattle.std.specs.Str.{bytes_eq}
use Rattle.venue_words.specs.declared.command.Event.{Event}
use Rattle.venue_words.specs.declared.config.Config.{Config}
use Rattle.listing.specs.Commands.{name_at}
use Rattle.audit_core.specs.Telling.{Telling, events_text}

-- whether a symbol has the name that is asked for
unfoldable pub is_named : List ℕ → Config → ℕ → Bool
is_named name config symbol = bytes_eq (name_at config.symbols symbol) name

-- what an answer tells of the last event of a symbol's journal, by the number of the event that is asked for
abbrev pub AnswerText : Type 0
AnswerText = ℕ → Config → ℕ → List Event → List ℕ

-- an answer by itself, event by event
abbrev pub telling_of : AnswerText → ℕ → Telling
telling_of tells event = record { event = tells event; end = λ _ _ _. [] }

-- it is told of the symbol with a name alone
unfoldable pub if_named : List ℕ → (Config → ℕ → List Event → List ℕ) → Config → ℕ → List Event → List ℕ
if_named name tells config symbol journal = if is_named name config symbol then tells config symbol journal else []

-- an answer that is told on the way: the number of the event is known
abbrev pub asked_telling : AnswerText → List ℕ → ℕ → Telling
asked_telling tells name event = record { event = if_named name (tells event); end = λ _ _ _. [] }

-- an answer once the event is found: all that was to be told on the way
abbrev pub found_text : AnswerText → Config → ℕ → List Event → Option ℕ → List ℕ
found_text tells config symbol journal None = []
found_text tells config symbol journal (Some event) = events_text (telling_of tells event) config symbol [] journal

-- an answer that is told at a symbol's end, since only the whole journal says which event is meant
abbrev pub sought_telling : AnswerText → List ℕ → (Config → ℕ → List Event → Option ℕ) → Telling
sought_telling tells name finds = record {
  event = λ _ _ _. [];
  end = if_named name (λ config symbol journal. found_text tells config symbol journal (finds config symbol journal));
}
