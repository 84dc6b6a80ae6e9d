-- What the frames of a stream make of a member's session, one after the other.
use Rattle.std.specs.Prelude.{◌≡◌, ◌⊎◌, ℕ, ℤ, if◌then◌else◌, List, [], ◌∷◌, ◌++◌, Option, Some, None}
use Rattle.fix_frames.specs.declared.reading.Reading.{Reading}
use Rattle.fix_frames.specs.Reading.{with_frames, reading_of}
use Rattle.venue_words.specs.declared.config.Config.{Config}
use Rattle.session_core.specs.declared.message.Request.{Request}
use Rattle.session_core.specs.Machine.{Machine, on_frame, on_overlong, given_up}
use Rattle.member_gate.specs.Answering.{Work, idle, turned, answer}

-- one work and then another, which began with the session behind the first
abbrev pub then_work : Work → Work → Work
then_work first second =
    record {
      session = second.session;
      replies = first.replies ++ second.replies;
      submissions = first.submissions ++ second.submissions;
    }

-- what is done with the message that a turn hands out, if any
abbrev pub handed_out : Config → ℕ → ℤ → Machine → Option Request → Work
handed_out config member moment session None = idle session
handed_out config member moment session (Some request) = answer config member moment session request

-- the work of one frame: the session takes it, and what it hands out is answered or goes to a book
unfoldable pub work_of_frame : Config → ℕ → ℤ → Machine → List ℕ → Work
work_of_frame config member moment session frame =
    let outcome = on_frame session frame moment in
    then_work (turned outcome) (handed_out config member moment outcome.machine outcome.turn.request)

-- the work of frames in their order
abbrev pub work_of_frames : Config → ℕ → ℤ → Machine → List (List ℕ) → Work
work_of_frames config member moment session [] = idle session
work_of_frames config member moment session (frame ∷ frames) =
    let first = work_of_frame config member moment session frame in
    then_work first (work_of_frames config member moment first.session frames)

-- the work behind all frames, where the next one is too long
abbrev pub work_at_limit : ℤ → Machine → Work
work_at_limit moment session = turned (on_overlong session moment)

-- the work of all frames of a stream, and of one that is too long behind them
unfoldable pub work_of_reading : Config → ℕ → ℤ → Machine → Reading → Work
work_of_reading config member moment session reading =
    let frames = work_of_frames config member moment session reading.frames in
    if reading.too_long then then_work frames (work_at_limit moment frames.session) else frames

-- of these bytes the frames were worked, and the others are unread: whatever follows, the stream goes on from these
abbrev pub AreUnread : List ℕ → List ℕ → Type 0
AreUnread bytes unread =
    (more : List ℕ) → reading_of (bytes ++ more) ≡ with_frames (reading_of bytes).frames (reading_of (unread ++ more))

-- a session gave up: before it took the next frame, or behind that; or, behind all frames, before or behind the turn that
-- ends the connection
abbrev pub GaveUp : ℤ → Machine → List (List ℕ) → Machine → Type 0
GaveUp moment session [] last = (last ≡ given_up session) ⊎ (last ≡ given_up (work_at_limit moment session).session)
GaveUp moment session (frame ∷ frames) last =
    (last ≡ given_up session) ⊎ (last ≡ given_up (on_frame session frame moment).machine)
