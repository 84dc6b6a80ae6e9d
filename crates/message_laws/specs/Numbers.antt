-- The numbers of what a session sends, over every list of inputs.
use Rattle.std.specs.Prelude.{◌≡◌, ℕ, ◌+◌, ◌<◌, Bool, not, ◌&&◌, if◌then◌else◌, List, [], ◌∷◌, Some, None, Result, Ok, Err, ◌⊎◌, ℤ}
use Rattle.venue_words.specs.Limits.{venue}
use Rattle.venue_words.specs.declared.refusal.NoMemory.{NoMemory}
use Rattle.fix_write.specs.Framing.{frame_of}
use Rattle.session_core.specs.declared.runs.Input.{Input}
use Rattle.session_core.specs.declared.turn.Turn.{Turn}
use Rattle.session_core.specs.State.{is_up}
use Rattle.session_core.specs.Machine.{Machine, fresh}
use Rattle.session_core.specs.Runs.{machine_behind, Follows}
use Rattle.message_laws.specs.Sessions.{is_reset}

-- a message to the member with this number, which is not sent again
pub record IsNew (member : List ℕ) (number : ℕ) (frame : List ℕ) : Type 0 where
  pub kind : ℕ
  pub moment : ℤ
  pub body : List ℕ
  pub frame_is : frame ≡ frame_of kind venue member number moment None body

-- a message with a number that came before, which is sent again: it has PossDupFlag (43) and the moment of the first time (122)
pub record IsAgain (member : List ℕ) (next : ℕ) (frame : List ℕ) : Type 0 where
  pub kind : ℕ
  pub number : ℕ
  pub moment : ℤ
  pub first : ℤ
  pub body : List ℕ
  pub some : 0 < number
  pub before : number < next
  pub frame_is : frame ≡ frame_of kind venue member number moment (Some first) body

-- frames from the one with this number on: each has the next number, or is sent again and takes none
abbrev pub Counts : List ℕ → ℕ → List (List ℕ) → ℕ → Type 0
Counts member next [] after = after ≡ next
Counts member next (frame ∷ frames) after =
    (IsNew member next frame × Counts member (next + 1) frames after)
    ⊎ (IsAgain member next frame × Counts member next frames after)

-- whether numbers begin again: with a Logon that asks for it and by which the session comes up
abbrev pub begins_again : Machine → Input → Machine → Bool
begins_again before input behind = not (is_up before.state) && (is_reset input && is_up behind.state)

abbrev pub first_number : Bool → ℕ → ℕ
first_number again next = if again then 1 else next

-- the replies to a list of inputs have numbers from this one on
abbrev pub AreNumbered : Machine → ℕ → List Input → List (Result Turn NoMemory) → Type 0
AreNumbered machine next [] answers = Unit {0}
AreNumbered machine next (input ∷ inputs) [] = Unit {0}
AreNumbered machine next (input ∷ inputs) (Ok turn ∷ answers) =
    (after : ℕ)
    × Counts machine.member (first_number (begins_again machine input (machine_behind machine input (Ok turn))) next) turn.replies after
    × AreNumbered (machine_behind machine input (Ok turn)) after inputs answers
AreNumbered machine next (input ∷ inputs) (Err no_memory ∷ answers) =
    AreNumbered (machine_behind machine input (Err no_memory)) next inputs answers

-- from its first connection on, what a session sends has the numbers 1, 2, 3 and so on
abbrev pub NumbersAreConsecutive : Type 0
NumbersAreConsecutive =
    (member : List ℕ) (inputs : List Input) (answers : List (Result Turn NoMemory)) (last : Machine) →
    Follows (fresh member) inputs answers last → AreNumbered (fresh member) 1 inputs answers
