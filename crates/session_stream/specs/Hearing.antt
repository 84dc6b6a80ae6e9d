-- What the next frame of a stream makes of a session.
use Rattle.std.specs.Prelude.{◌≡◌, ◌<◌, ℕ, ℤ, List, [], ◌∷◌, ◌++◌, length}
use Rattle.venue_words.specs.declared.limits.TheConstants.{MAX_FRAME_BYTES}
use Rattle.fix_frames.specs.Reading.{none_yet, only_too_long, with_frames, reading_of}
use Rattle.session_core.specs.declared.turn.Turn.{Turn}
use Rattle.session_core.specs.Machine.{Machine, on_frame, on_overlong}
use Rattle.session_stream.specs.Work.{Answerer, Work, work_of_frames}

-- of these bytes some frames were taken, and the others are unread: whatever follows, the stream goes on from these
abbrev pub Reads : List ℕ → List (List ℕ) → List ℕ → Type 0
Reads bytes frames unread =
    (more : List ℕ) → reading_of (bytes ++ more) ≡ with_frames frames (reading_of (unread ++ more))

-- the next frame went through the session
pub record TakesFrame (moment : ℤ) (old : Machine) (bytes : List ℕ) (turn : Turn) (new : Machine) (unread : List ℕ) : Type 0 where
  pub frame : List ℕ
  pub reads : Reads bytes (frame ∷ []) unread
  pub fewer : length unread < length bytes
  pub machine : new ≡ (on_frame old frame moment).machine
  pub turn_is : turn ≡ (on_frame old frame moment).turn

-- the next frame is too long, whatever follows
pub record Exceeds (moment : ℤ) (old : Machine) (bytes : List ℕ) (turn : Turn) (new : Machine) : Type 0 where
  pub exceeds : (more : List ℕ) → reading_of (bytes ++ more) ≡ only_too_long
  pub machine : new ≡ (on_overlong old moment).machine
  pub turn_is : turn ≡ (on_overlong old moment).turn

-- there is no further frame yet, and few bytes are kept
pub record Waits (old : Machine) (bytes : List ℕ) (new : Machine) (unread : List ℕ) : Type 0 where
  pub reads : Reads bytes [] unread
  pub none : reading_of unread ≡ none_yet
  pub few : length unread < MAX_FRAME_BYTES
  pub machine : new ≡ old

-- the frames of a stream that were taken made this work
pub record IsUnderway (answerer : Answerer) (moment : ℤ) (first : Machine) (bytes : List ℕ) (work : Work) (unread : List ℕ) : Type 0 where
  pub frames : List (List ℕ)
  pub reads : Reads bytes frames unread
  pub work_is : work ≡ work_of_frames answerer moment first frames
