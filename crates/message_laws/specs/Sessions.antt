-- What a session expects and what it hands out, over every list of inputs.
use Rattle.std.specs.Prelude.{◌≡◌, ℕ, ◌+◌, ◌≤◌, Bool, false, List, [], ◌∷◌, ◌++◌, Option, Some, None, Result, Ok, Err}
use Rattle.std.specs.List.{AllByRecursion}
use Rattle.venue_words.specs.declared.refusal.NoMemory.{NoMemory}
use Rattle.fix_fields.specs.declared.field.Field.{Field}
use Rattle.fix_fields.specs.declared.field.FieldFault.{FieldFault}
use Rattle.fix_fields.specs.Fields.{split}
use Rattle.fix_write.specs.declared.message_type.MessageType.{MessageType}
use Rattle.fix_write.specs.declared.message_type.MessageType.TheVariants.{Logon}
use Rattle.session_core.specs.declared.tags.TheConstants.{RESET_SEQ_NUM_FLAG}
use Rattle.session_core.specs.declared.message.Request.{Request}
use Rattle.session_core.specs.declared.runs.Input.{Input}
use Rattle.session_core.specs.declared.runs.Input.TheVariants.{Connection, Frame, TooLong, Tick, Send, Reject}
use Rattle.session_core.specs.declared.turn.Turn.{Turn}
use Rattle.fix_fields.specs.Content.{content_of}
use Rattle.session_core.specs.Lookup.{kind_of, is_yes}
use Rattle.session_core.specs.Machine.{Machine}
use Rattle.session_core.specs.Runs.{Follows}

-- a Logon with ResetSeqNumFlag (141) Y
abbrev pub is_reset_logon : MessageType → List Field → Bool
is_reset_logon Logon fields = is_yes RESET_SEQ_NUM_FLAG fields
is_reset_logon _ fields = false

abbrev pub asks_reset : Result (List Field) FieldFault → Bool
asks_reset (Ok fields) = is_reset_logon (kind_of fields) fields
asks_reset (Err fault) = false

abbrev pub is_reset : Input → Bool
is_reset Connection = false
is_reset (Frame frame moment) = asks_reset (split (content_of frame))
is_reset (TooLong moment) = false
is_reset (Tick moment) = false
is_reset (Send messages moment) = false
is_reset (Reject number kind tag reason moment) = false

-- none of the inputs is such a Logon
abbrev pub HaveNoReset : List Input → Type 0
HaveNoReset inputs = AllByRecursion (λ input. is_reset input ≡ false) inputs

-- the number that is to come falls by no other input
abbrev pub ExpectedStaysOrRises : Type 0
ExpectedStaysOrRises =
    (machine : Machine) (inputs : List Input) (answers : List (Result Turn NoMemory)) (last : Machine) →
    HaveNoReset inputs → Follows machine inputs answers last → machine.state.next_in ≤ last.state.next_in

-- the number of what was handed out
abbrev pub number_of_request : Option Request → List ℕ
number_of_request None = []
number_of_request (Some request) = request.number ∷ []

abbrev pub numbers_of_answer : Result Turn NoMemory → List ℕ
numbers_of_answer (Ok turn) = number_of_request turn.request
numbers_of_answer (Err no_memory) = []

-- the numbers of all that was handed out, in their order
abbrev pub numbers_handed_out : List (Result Turn NoMemory) → List ℕ
numbers_handed_out [] = []
numbers_handed_out (answer ∷ answers) = numbers_of_answer answer ++ numbers_handed_out answers

-- each number is at least this one, and above all before it
abbrev pub Ascend : ℕ → List ℕ → Type 0
Ascend least [] = Unit {0}
Ascend least (number ∷ numbers) = (least ≤ number) × Ascend (number + 1) numbers

-- between two such Logons the numbers of what is handed out ascend, from the number that was to come
abbrev pub HandedOutOnce : Type 0
HandedOutOnce =
    (machine : Machine) (inputs : List Input) (answers : List (Result Turn NoMemory)) (last : Machine) →
    HaveNoReset inputs → Follows machine inputs answers last →
    Ascend machine.state.next_in (numbers_handed_out answers)
