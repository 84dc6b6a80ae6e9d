-- Laws of the work on a stream, whatever its caller answers.
use Rattle.std.specs.Prelude.{◌≡◌, ℕ, ℤ, false, List, ◌++◌}
use Rattle.fix_frames.specs.declared.reading.Reading.{Reading}
use Rattle.fix_frames.specs.Reading.{reading_of}
use Rattle.session_core.specs.declared.message.Request.{Request}
use Rattle.session_core.specs.Alike.{AreAlike}
use Rattle.session_core.specs.Machine.{Machine, IsOver}
use Rattle.session_stream.specs.Hearing.{Reads}
use Rattle.session_stream.specs.Work.{Answerer, Work, idle, then_work, work_of_reading}

-- however a stream is cut in two: the work of the whole is that of the first bytes, and then that of what is unread of them
-- with the others behind it
abbrev pub AnyCut : Type 0
AnyCut =
    (answerer : Answerer) (moment : ℤ) (session : Machine) (bytes unread more : List ℕ)
    → Reads bytes (reading_of bytes).frames unread
    → (reading_of bytes).too_long ≡ false
    → work_of_reading answerer moment session (reading_of (bytes ++ more))
    ≡ then_work (work_of_reading answerer moment session (reading_of bytes))
    (work_of_reading answerer moment (work_of_reading answerer moment session (reading_of bytes)).session
    (reading_of (unread ++ more)))

-- to a session that is over no frame does anything
abbrev pub OverRests : Type 0
OverRests =
    (answerer : Answerer) (moment : ℤ) (session : Machine) (reading : Reading) → IsOver session
    → work_of_reading answerer moment session reading ≡ idle session

-- an answer that is nothing but what is sent
abbrev pub OnlySends : Answerer → Type 0
OnlySends answerer = (session : Machine) (request : Request) → AreAlike (answerer session request).machine session

-- the same messages were handed out, and alike sessions are left; what was sent may differ
pub record HandOutAlike (a b : Work) : Type 0 where
  pub sessions : AreAlike a.session b.session
  pub requests : a.requests ≡ b.requests

-- what is answered changes nothing of what the session hands out later, nor of how it ends
abbrev pub AnswersChangeNothing : Type 0
AnswersChangeNothing =
    (first second : Answerer) (moment : ℤ) (a b : Machine) (reading : Reading)
    → OnlySends first → OnlySends second → AreAlike a b
    → HandOutAlike (work_of_reading first moment a reading) (work_of_reading second moment b reading)
