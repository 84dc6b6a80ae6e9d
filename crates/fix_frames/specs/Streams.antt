-- The frames of a stream of bytes, one after the other.
use Rattle.std.specs.Prelude.{◌≡◌, ℕ, ◌+◌, ◌≤◌, ◌<◌, List, [], ◌∷◌, ◌++◌, length, take, drop}
use Rattle.venue_words.specs.declared.limits.TheConstants.{MAX_FRAME_BYTES}
use Rattle.fix_frames.specs.declared.place.Place.{Place}
use Rattle.fix_frames.specs.declared.place.Place.TheVariants.{Passed, Unfinished, Long, Whole}
use Rattle.fix_frames.specs.declared.framer.Next.{Next}
use Rattle.fix_frames.specs.declared.framer.Next.TheVariants.{Frame, Wait, TooLong}
use Rattle.fix_frames.specs.Places.{place_at}

-- what comes next in a stream: no frame yet, one that is too long, or a frame behind so many bytes that are passed over
pub data Answer : Type 0 where
  waits : Answer
  exceeds : Answer
  gives : ℕ → List ℕ → Answer

-- the answer from so many places before
abbrev pub advanced : ℕ → Answer → Answer
advanced n waits = waits
advanced n exceeds = exceeds
advanced n (gives k frame) = gives (n + k) frame

-- the answer at a place, given the one from the next place on
abbrev pub answer_at : Place → List ℕ → Answer → Answer
answer_at Passed bytes behind = advanced 1 behind
answer_at Unfinished bytes behind = waits
answer_at Long bytes behind = exceeds
answer_at (Whole size front) bytes behind = gives 0 (take size bytes)

-- what comes next from the front of bytes on: the first place that is not passed over decides
abbrev pub next_from : List ℕ → Answer
next_from [] = waits
next_from (byte ∷ bytes) = answer_at (place_at (byte ∷ bytes)) (byte ∷ bytes) (next_from bytes)

-- whatever follows these bytes, their first ones, so many of them, are passed over
abbrev pub Skips : List ℕ → ℕ → Type 0
Skips bytes n = (more : List ℕ) → next_from (bytes ++ more) ≡ advanced n (next_from (drop n bytes ++ more))

-- a stream so far: how many of its bytes were passed over or given, those behind them, and how many bytes are held for it
pub record Stream : Type 0 where
  pub passed : ℕ
  pub kept : List ℕ
  pub held : ℕ

-- a stream of which nothing came yet
abbrev pub beginning : Stream
beginning = record { passed = 0; kept = []; held = 0 }

-- the bytes of a stream so far end with those kept, and so many stand before them
pub record EndsWith (bytes : List ℕ) (stream : Stream) : Type 0 where
  pub passed : stream.passed ≤ length bytes
  pub kept : drop stream.passed bytes ≡ stream.kept

-- so many bytes more are passed over or given, and no more are held
pub record GoesOn (old new : Stream) (n : ℕ) : Type 0 where
  pub passed : new.passed ≡ old.passed + n
  pub kept : new.kept ≡ drop n old.kept
  pub inside : n ≤ length old.kept
  pub held : new.held ≡ old.held

-- the next frame was given, whatever follows
abbrev pub HasGiven : Stream → Stream → List ℕ → Type 0
HasGiven old new frame =
    (n : ℕ) × GoesOn old new (n + length frame) × ((more : List ℕ) → next_from (old.kept ++ more) ≡ gives n frame)

-- there is no further frame yet, the same comes next whatever follows, and few bytes are kept
abbrev pub HasWaited : Stream → Stream → Type 0
HasWaited old new =
    (n : ℕ) × GoesOn old new n × Skips old.kept n × (next_from old.kept ≡ waits) × (length new.kept < MAX_FRAME_BYTES)

-- the next frame is too long, now and from then on, whatever follows
abbrev pub HasExceeded : Stream → Stream → Type 0
HasExceeded old new =
    (n : ℕ) × GoesOn old new n
    × ((more : List ℕ) → next_from (old.kept ++ more) ≡ exceeds)
    × ((more : List ℕ) → next_from (new.kept ++ more) ≡ exceeds)

-- what an answer says of the stream before and after it
abbrev pub IsNext : Stream → Next → Stream → Type 0
IsNext old (Frame frame) new = HasGiven old new frame.bytes.now
IsNext old Wait new = HasWaited old new
IsNext old TooLong new = HasExceeded old new
