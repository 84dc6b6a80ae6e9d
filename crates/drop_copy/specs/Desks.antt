-- A drop desk as it is seen, and what each input makes of it.
use Rattle.std.specs.Prelude.{◌≡◌, ◌<◌, ℕ, ℤ, List, [], ◌∷◌, ◌++◌, length}
use Rattle.std.specs.List.{All}
use Rattle.fix_frames.specs.Reading.{reading_of}
use Rattle.venue_words.specs.declared.config.Config.{Config}
use Rattle.session_core.specs.Machine.{Machine, fresh, connected}
use Rattle.session_stream.specs.Hearing.{Reads}
use Rattle.session_stream.specs.Work.{Work, work_of_frames, work_of_reading}
use Rattle.member_gate.specs.Working.{GaveUp}
use Rattle.drop_copy.specs.Answering.{refuses}

-- the session, the bytes of its stream that are unread, the listed members, and how many reports of each symbol were gone
-- through for each of them
pub record DropView : Type 0 where
  pub session : Machine
  pub unread : List ℕ
  pub members : List ℕ
  pub cursors : List ℕ

-- before the first connection
abbrev pub fresh_drop : List ℕ → List ℕ → DropView
fresh_drop name members = record { session = fresh name; unread = []; members = members; cursors = [] }

-- a new connection: nothing is unread, and numbers, messages and cursors stay
abbrev pub connected_drop : DropView → DropView
connected_drop desk = record desk { session = connected desk.session; unread = [] }

-- listed members are configured
abbrev pub AreConfigured : List ℕ → Config → Type 0
AreConfigured members config = All (λ member. member < length config.members) members

-- each member stands before greater ones
abbrev pub AreRising : List ℕ → Type 0
AreRising [] = Unit {0}
AreRising (member ∷ members) = All (λ later. member < later) members × AreRising members

-- the work of the next piece of the stream
abbrev pub work_of_piece : ℤ → DropView → List ℕ → Work
work_of_piece moment desk piece =
    work_of_reading (refuses moment) moment desk.session (reading_of (desk.unread ++ piece))

-- all frames of these bytes were taken, and the stream goes on from the unread ones
abbrev pub AreUnread : List ℕ → List ℕ → Type 0
AreUnread bytes unread = Reads bytes (reading_of bytes).frames unread

-- some of these frames were worked, and the session gave up over the next one, or behind all of them
pub record GaveUpOver (moment : ℤ) (session : Machine) (frames : List (List ℕ)) (last : Machine) : Type 0 where
  pub worked : List (List ℕ)
  pub left : List (List ℕ)
  pub frames_are : frames ≡ worked ++ left
  pub gave_up : GaveUp moment (work_of_frames (refuses moment) moment session worked).session left last
