-- What the frames of a stream make of a session whose caller answers the messages that it hands out.
use Rattle.std.specs.Prelude.{ℕ, ℤ, if◌then◌else◌, List, [], ◌∷◌, ◌++◌, Option, Some, None}
use Rattle.fix_frames.specs.declared.reading.Reading.{Reading}
use Rattle.session_core.specs.declared.message.Request.{Request}
use Rattle.session_core.specs.Machine.{Machine, Outcome, on_frame, on_overlong}

-- how a caller answers a message that the session hands out: the session behind the answer, and what is sent
abbrev pub Answerer : Type 0
Answerer = Machine → Request → Outcome

-- the session behind some frames, what was sent, and the messages that were handed out, in their order
pub record Work : Type 0 where
  pub session : Machine
  pub replies : List (List ℕ)
  pub requests : List Request

-- nothing happened
abbrev pub idle : Machine → Work
idle session = record { session = session; replies = []; requests = [] }

-- the session took a turn
abbrev pub turned : Outcome → Work
turned outcome = record { session = outcome.machine; replies = outcome.turn.replies; requests = [] }

-- one work and then another, which began with the session behind the first
abbrev pub then_work : Work → Work → Work
then_work first second =
    record {
      session = second.session;
      replies = first.replies ++ second.replies;
      requests = first.requests ++ second.requests;
    }

-- the message that a turn hands out, if any, is answered
abbrev pub answered : Answerer → Machine → Option Request → Work
answered answerer session None = idle session
answered answerer session (Some request) =
    record {
      session = (answerer session request).machine;
      replies = (answerer session request).turn.replies;
      requests = request ∷ [];
    }

-- the work of one frame: the session takes it, and what it hands out is answered
unfoldable pub work_of_frame : Answerer → ℤ → Machine → List ℕ → Work
work_of_frame answerer moment session frame =
    let outcome = on_frame session frame moment in
    then_work (turned outcome) (answered answerer outcome.machine outcome.turn.request)

-- the work of frames in their order
abbrev pub work_of_frames : Answerer → ℤ → Machine → List (List ℕ) → Work
work_of_frames answerer moment session [] = idle session
work_of_frames answerer moment session (frame ∷ frames) =
    let first = work_of_frame answerer moment session frame in
    then_work first (work_of_frames answerer moment first.session frames)

-- the work behind all frames, where the next one is too long
abbrev pub work_at_limit : ℤ → Machine → Work
work_at_limit moment session = turned (on_overlong session moment)

-- the work of all frames of a stream, and of one that is too long behind them
unfoldable pub work_of_reading : Answerer → ℤ → Machine → Reading → Work
work_of_reading answerer moment session reading =
    let frames = work_of_frames answerer moment session reading.frames in
    if reading.too_long then then_work frames (work_at_limit moment frames.session) else frames
