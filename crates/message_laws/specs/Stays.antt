-- What holds of the machine over whole lists of inputs.
use Rattle.std.specs.Prelude.{◌≡◌, ℕ, ◌==◌, Bool, true, false, not, ◌&&◌, List, Option, Result, Ok, Err, ◌++◌, IsTrue, ℤ}
use Rattle.std.specs.Option.{option_map_or}
use Rattle.std.specs.List.{AllByRecursion}
use Rattle.venue_words.specs.declared.refusal.NoMemory.{NoMemory}
use Rattle.fix_fields.specs.declared.field.Field.{Field}
use Rattle.fix_fields.specs.declared.field.FieldFault.{FieldFault}
use Rattle.fix_fields.specs.Fields.{split}
use Rattle.session_core.specs.declared.message.Kept.{Kept}
use Rattle.session_core.specs.declared.runs.Input.{Input}
use Rattle.session_core.specs.declared.runs.Input.TheVariants.{Connection, Frame, TooLong, Tick, Send, Reject}
use Rattle.session_core.specs.declared.turn.Turn.{Turn}
use Rattle.session_core.specs.Lookup.{message_number, kind_of}
use Rattle.fix_fields.specs.Content.{content_of}
use Rattle.session_core.specs.Sequence.{in_reset_mode}
use Rattle.session_core.specs.Machine.{Machine, IsUp, IsOver, rests, on_frame}
use Rattle.session_core.specs.Runs.{Follows, outcome_of}
use Rattle.session_core.specs.Alike.{AreAlike, GiveAlike, is_sent}

-- a message has another number than the one that is to come, and is no SequenceReset that sets it
abbrev pub is_astray : ℕ → List Field → Bool
is_astray next fields =
    not (option_map_or (λ number. number == next) (message_number fields) false)
    && not (in_reset_mode (kind_of fields) fields)

abbrev pub is_garbled_or_astray : ℕ → Result (List Field) FieldFault → Bool
is_garbled_or_astray next (Err fault) = true
is_garbled_or_astray next (Ok fields) = is_astray next fields

abbrev pub IsGarbledOrAstray : Machine → List ℕ → Type 0
IsGarbledOrAstray machine frame = IsTrue (is_garbled_or_astray machine.state.next_in (split (content_of frame)))

abbrev pub is_connection : Input → Bool
is_connection Connection = true
is_connection (Frame frame moment) = false
is_connection (TooLong moment) = false
is_connection (Tick moment) = false
is_connection (Send messages moment) = false
is_connection (Reject number kind tag reason moment) = false

-- a session that is over stays as it is until a new connection: to every input it answers that it sends nothing, hands
-- nothing out, and ended by the same cause
abbrev pub EndedStays : Type 0
EndedStays =
    (machine : Machine) (inputs : List Input) (answers : List (Result Turn NoMemory)) (last : Machine) →
    IsOver machine → AllByRecursion (λ input. is_connection input ≡ false) inputs →
    Follows machine inputs answers last →
    (last ≡ machine) × AllByRecursion (λ answer. answer ≡ Ok (rests machine).turn) answers

-- the number that is to come stays where a frame is garbled, and where a message of another number comes: one that came
-- too early is not kept, and raises it no more than one that came before. Only a SequenceReset that is no gap fill sets
-- it whatever its own number
abbrev pub NumberStays : Type 0
NumberStays =
    (machine : Machine) (frame : List ℕ) (moment : ℤ) → IsUp machine → IsGarbledOrAstray machine frame →
    (on_frame machine frame moment).machine.state.next_in ≡ machine.state.next_in

-- what a session that is up has sent stands under its number behind every input
abbrev pub SentStays : Type 0
SentStays =
    (machine : Machine) (input : Input) → IsUp machine →
    (more : List (Option Kept)) × ((outcome_of machine input).machine.sent ≡ machine.sent ++ more)

-- sessions of one member that differ only in what they sent go on so: every input makes alike sessions of them, by which
-- the same is handed out and the same ends
abbrev pub AlikeStay : Type 0
AlikeStay = (a b : Machine) (input : Input) → AreAlike a b → GiveAlike (outcome_of a input) (outcome_of b input)

-- they also go on so where one of them alone is asked to send something
abbrev pub SendingIsAlike : Type 0
SendingIsAlike =
    (a b : Machine) (input : Input) → is_sent input ≡ true → AreAlike a b → AreAlike (outcome_of a input).machine b
