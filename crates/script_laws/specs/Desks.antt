-- Laws of the work on a stream.
use Rattle.std.specs.Prelude.{◌≡◌, ◌↔◌, ◌⊎◌, ℕ, ℤ, false, List, [], ◌++◌}
use Rattle.fix_frames.specs.declared.reading.Reading.{Reading}
use Rattle.fix_frames.specs.Reading.{reading_of}
use Rattle.venue_words.specs.declared.config.Config.{Config}
use Rattle.session_core.specs.declared.message.Message.{Message}
use Rattle.session_core.specs.Machine.{Machine, IsUp}
use Rattle.session_core.specs.Runs.{send_if_up}
use Rattle.session_core.specs.Alike.{AreAlike}
use Rattle.script_laws.specs.Alike.{SubmitAlike}
use Rattle.member_gate.specs.Working.{then_work, work_of_frames, work_of_reading, AreUnread}

-- however a stream is cut in two: the work of the whole is that of the first bytes, and then that of what is unread of them
-- with the others behind it
abbrev pub AnyCut : Type 0
AnyCut =
    (config : Config) (member : ℕ) (moment : ℤ) (session : Machine) (bytes unread more : List ℕ)
    → AreUnread bytes unread
    → (reading_of bytes).too_long ≡ false
    → work_of_reading config member moment session (reading_of (bytes ++ more))
    ≡ then_work (work_of_reading config member moment session (reading_of bytes))
    (work_of_reading config member moment (work_of_reading config member moment session (reading_of bytes)).session
    (reading_of (unread ++ more)))

-- what is sent is nothing exactly where the session is not up or there are no messages
abbrev pub EmptyExactly : Type 0
EmptyExactly =
    (session : Machine) (messages : List Message) (moment : ℤ)
    → ((send_if_up session messages moment).turn.replies ≡ []) ↔ ((IsUp session → ⊥) ⊎ (messages ≡ []))

-- what a member was sent doesn't matter: sessions that differ only in that make the same commands of the same bytes, and go
-- on so
abbrev pub FramesSubmitAlike : Type 0
FramesSubmitAlike =
    (config : Config) (member : ℕ) (moment : ℤ) (a b : Machine) (frames : List (List ℕ))
    → AreAlike a b
    → SubmitAlike (work_of_frames config member moment a frames) (work_of_frames config member moment b frames)

abbrev pub ReadingsSubmitAlike : Type 0
ReadingsSubmitAlike =
    (config : Config) (member : ℕ) (moment : ℤ) (a b : Machine) (reading : Reading)
    → AreAlike a b
    → SubmitAlike (work_of_reading config member moment a reading) (work_of_reading config member moment b reading)
