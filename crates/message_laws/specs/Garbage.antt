-- Frames in a stream with garbage.
use Rattle.std.specs.Prelude.{◌≡◌, ℕ, ◌+◌, ◌<◌, ◌≤◌, false, List, [], ◌∷◌, ◌++◌, length, take, drop, map, Some, ◌⊎◌}
use Rattle.std.specs.List.{flat_map, AllByRecursion}
use Rattle.venue_words.specs.declared.limits.TheConstants.{MAX_FRAME_BYTES}
use Rattle.fix_fields.specs.Forms.{numeral}
use Rattle.fix_frames.specs.Frames.{header, IsFrame}
use Rattle.fix_frames.specs.Places.{begin_string}
use Rattle.fix_frames.specs.Streams.{Stream, beginning, next_from, gives, exceeds}
use Rattle.fix_frames.specs.Reading.{reading_of}
use Rattle.message_laws.specs.Calls.{Call, waited, Leads, bytes_fed, frames_given}

-- bytes that begin as a frame does: BeginString, and BodyLength in 1 to 5 digits; with CheckSum it would have so many bytes
pub record Declares (bytes : List ℕ) (size : ℕ) : Type 0 where
  pub digits : List ℕ
  pub rest : List ℕ
  pub content : ℕ
  pub begins : bytes ≡ header digits ++ rest
  pub some : 0 < length digits
  pub few : length digits ≤ 5
  pub counts : numeral digits ≡ Some content
  pub whole : size ≡ length (header digits) + content + 7

-- as many bytes as a start declares, which are within the limit, are there and are no frame
pub record IsNoFrame (bytes : List ℕ) : Type 0 where
  pub size : ℕ
  pub declares : Declares bytes size
  pub within : size ≤ MAX_FRAME_BYTES
  pub there : size ≤ length bytes
  pub wrong : IsFrame (take size bytes) → ⊥

-- whatever follows, the bytes declare no length
abbrev pub DeclareNothing : List ℕ → Type 0
DeclareNothing bytes = (more : List ℕ) (size : ℕ) → Declares (bytes ++ more) size → ⊥

-- the bytes from a BeginString on, where no frame comes from it
abbrev pub IsGarbled : List ℕ → Type 0
IsGarbled bytes = IsNoFrame bytes ⊎ DeclareNothing bytes

-- bytes with others behind them, where no frame comes from a BeginString among the first, as in any bytes without one
abbrev pub IsGarbage : List ℕ → List ℕ → Type 0
IsGarbage bytes rest =
    (before after : List ℕ) → bytes ≡ before ++ (begin_string ++ after) → IsGarbled (begin_string ++ (after ++ rest))

-- a frame behind garbage comes next
abbrev pub FrameBehindGarbage : Type 0
FrameBehindGarbage =
    (garbage frame more : List ℕ) → IsGarbage garbage (frame ++ more) → IsFrame frame → length frame ≤ MAX_FRAME_BYTES →
    next_from (garbage ++ (frame ++ more)) ≡ gives (length garbage) frame

-- a frame, and the bytes before it
pub record Part : Type 0 where
  pub garbage : List ℕ
  pub frame : List ℕ

-- a frame within the limit, behind bytes that are garbage with it behind them, whatever follows
pub record IsPart (part : Part) : Type 0 where
  pub garbage : (more : List ℕ) → IsGarbage part.garbage (part.frame ++ more)
  pub frame : IsFrame part.frame
  pub fits : length part.frame ≤ MAX_FRAME_BYTES

abbrev pub bytes_of : Part → List ℕ
bytes_of part = part.garbage ++ part.frame

abbrev pub frames_of : List Part → List (List ℕ)
frames_of parts = map (λ (part : Part). part.frame) parts

-- a stream of such parts has their frames
abbrev pub FramesComeThrough : Type 0
FramesComeThrough =
    (parts : List Part) → AllByRecursion IsPart parts →
    reading_of (flat_map bytes_of parts) ≡ record { frames = frames_of parts; too_long = false }

-- a framer that was fed a stream of such parts, and had nothing more to give when it was asked last, gave their frames
abbrev pub CutsDoNotMatter : Type 0
CutsDoNotMatter =
    (parts : List Part) (calls : List Call) (new : Stream) → AllByRecursion IsPart parts →
    bytes_fed calls ≡ flat_map bytes_of parts → Leads beginning (calls ++ waited ∷ []) new →
    frames_given calls ≡ frames_of parts

-- behind garbage a start that declares more bytes than the limit is too long
abbrev pub TooLongBehindGarbage : Type 0
TooLongBehindGarbage =
    (garbage start : List ℕ) (size : ℕ) → IsGarbage garbage start → Declares start size → MAX_FRAME_BYTES < size →
    next_from (garbage ++ start) ≡ exceeds

-- the place of a start that declares more bytes than the limit; before it no frame can begin, whatever follows
pub record HasLongStart (bytes : List ℕ) : Type 0 where
  pub place : ℕ
  pub size : ℕ
  pub inside : place ≤ length bytes
  pub declares : Declares (drop place bytes) size
  pub above : MAX_FRAME_BYTES < size
  pub first : (k : ℕ) (more frame rest : List ℕ) → k < place → IsFrame frame → length frame ≤ MAX_FRAME_BYTES →
      drop k bytes ++ more ≡ frame ++ rest → ⊥

-- what is too long has a start that declares it
abbrev pub TooLongIsDeclared : Type 0
TooLongIsDeclared = (bytes : List ℕ) → next_from bytes ≡ exceeds → HasLongStart bytes
