-- What is sent again is what was sent first, over every list of inputs.
use Rattle.std.specs.Prelude.{◌≡◌, ℕ, ◌+◌, ◌-◌, ◌<◌, ◌≤◌, Bool, true, false, if◌then◌else◌, List, [], ◌∷◌, ◌++◌, length, slice_index_or, Some, None, Result, Ok, Err, ◌⊎◌, ℤ}
use Rattle.venue_words.specs.Limits.{venue}
use Rattle.venue_words.specs.declared.refusal.NoMemory.{NoMemory}
use Rattle.fix_write.specs.declared.message_type.MessageType.TheVariants.{SequenceReset}
use Rattle.fix_write.specs.Framing.{frame_of}
use Rattle.fix_write.specs.MessageTypes.{byte_of}
use Rattle.session_core.specs.declared.runs.Input.{Input}
use Rattle.session_core.specs.declared.runs.Input.TheVariants.{Connection, Frame, TooLong, Tick, Send, Reject}
use Rattle.session_core.specs.declared.turn.Turn.{Turn}
use Rattle.session_core.specs.Bodies.{gap_body}
use Rattle.session_core.specs.Machine.{Machine, fresh}
use Rattle.session_core.specs.Runs.{machine_behind, Follows}
use Rattle.message_laws.specs.Numbers.{IsNew, begins_again}

-- what was sent first under a number: the frame, and whether it is an application message that was asked for by Send
pub record Entry : Type 0 where
  pub application : Bool
  pub frame : List ℕ

-- what stands under a number, from 1 on
abbrev pub entry_of : List Entry → ℕ → Entry
entry_of ledger number = slice_index_or ledger (number - 1) (record { application = false; frame = [] })

-- the application message that was sent first under a number, again: the same type, names, number and body, and beside them
-- PossDupFlag (43), the first moment (122) and a moment of its own (52)
pub record IsSentAgain (member : List ℕ) (now : ℤ) (entry : Entry) (number : ℕ) (frame : List ℕ) : Type 0 where
  pub kind : ℕ
  pub first : ℤ
  pub body : List ℕ
  pub application : entry.application ≡ true
  pub was : entry.frame ≡ frame_of kind venue member number first None body
  pub is : frame ≡ frame_of kind venue member number now (Some first) body

-- a SequenceReset in place of messages of the session from a number up to before another one
pub record FillsGap (member : List ℕ) (now : ℤ) (ledger : List Entry) (first end : ℕ) (frame : List ℕ) : Type 0 where
  pub order : first < end
  pub own : (number : ℕ) → first ≤ number → number < end → (entry_of ledger number).application ≡ false
  pub is : frame ≡ frame_of (byte_of SequenceReset) venue member first now (Some now) (gap_body end)

-- frames that cover the numbers from the first up to before the last, each exactly once and in order
abbrev pub Covers : List ℕ → ℤ → List Entry → ℕ → ℕ → List (List ℕ) → Type 0
Covers member now ledger first end [] = first ≡ end
Covers member now ledger first end (frame ∷ frames) =
    (IsSentAgain member now (entry_of ledger first) first frame × Covers member now ledger (first + 1) end frames)
    ⊎ ((next : ℕ) × FillsGap member now ledger first next frame × Covers member now ledger next end frames)

-- frames that cover a range of the numbers sent so far
pub record CoversRange (member : List ℕ) (ledger : List Entry) (frames : List (List ℕ)) : Type 0 where
  pub now : ℤ
  pub first : ℕ
  pub last : ℕ
  pub some : 0 < first
  pub order : first ≤ last
  pub most : last ≤ length ledger
  pub covers : Covers member now ledger first (last + 1) frames

-- new messages, each under the next number
abbrev pub Adds : List ℕ → Bool → List Entry → List (List ℕ) → List Entry → Type 0
Adds member application ledger [] after = after ≡ ledger
Adds member application ledger (frame ∷ frames) after =
    IsNew member (length ledger + 1) frame
    × Adds member application (ledger ++ record { application = application; frame = frame } ∷ []) frames after

-- first a range that is sent again, if any, and then new messages; these begin another ledger where numbers begin again
pub record Sends (member : List ℕ) (application again : Bool) (ledger : List Entry) (replies : List (List ℕ)) (after : List Entry) : Type 0 where
  pub old : List (List ℕ)
  pub new : List (List ℕ)
  pub whole : replies ≡ old ++ new
  pub range : (old ≡ []) ⊎ CoversRange member ledger old
  pub adds : Adds member application (if again then [] else ledger) new after

-- whether an input asks for application messages
abbrev pub is_application : Input → Bool
is_application Connection = false
is_application (Frame frame moment) = false
is_application (TooLong moment) = false
is_application (Tick moment) = false
is_application (Send messages moment) = true
is_application (Reject number kind tag reason moment) = false

-- the replies to a list of inputs, from what was sent before them on
abbrev pub AreRecorded : Machine → List Entry → List Input → List (Result Turn NoMemory) → Type 0
AreRecorded machine ledger [] answers = Unit {0}
AreRecorded machine ledger (input ∷ inputs) [] = Unit {0}
AreRecorded machine ledger (input ∷ inputs) (Ok turn ∷ answers) =
    (after : List Entry)
    × Sends machine.member (is_application input) (begins_again machine input (machine_behind machine input (Ok turn))) ledger turn.replies after
    × AreRecorded (machine_behind machine input (Ok turn)) after inputs answers
AreRecorded machine ledger (input ∷ inputs) (Err no_memory ∷ answers) =
    AreRecorded (machine_behind machine input (Err no_memory)) ledger inputs answers

-- from its first connection on, what a session sends again is what it sent first
abbrev pub SentAgainAsFirst : Type 0
SentAgainAsFirst =
    (member : List ℕ) (inputs : List Input) (answers : List (Result Turn NoMemory)) (last : Machine) →
    Follows (fresh member) inputs answers last → AreRecorded (fresh member) [] inputs answers
