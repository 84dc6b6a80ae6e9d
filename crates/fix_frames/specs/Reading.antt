-- All frames of a stream.
use Rattle.std.specs.Prelude.{ℕ, zero, suc, ◌+◌, true, false, List, [], ◌∷◌, ◌++◌, length, drop}
use Rattle.fix_frames.specs.declared.reading.Reading.{Reading}
use Rattle.fix_frames.specs.Streams.{Answer, waits, exceeds, gives, next_from}

-- no frame yet
abbrev pub none_yet : Reading
none_yet = record { frames = []; too_long = false }

-- the next frame is too long
abbrev pub only_too_long : Reading
only_too_long = record { frames = []; too_long = true }

-- frames, and then those of a reading
abbrev pub with_frames : List (List ℕ) → Reading → Reading
with_frames frames reading = record { frames = frames ++ reading.frames; too_long = reading.too_long }

-- the reading behind an answer, by the reading of what is left
abbrev pub behind : Answer → List ℕ → (List ℕ → Reading) → Reading
behind waits bytes rest = none_yet
behind exceeds bytes rest = only_too_long
behind (gives n frame) bytes rest = with_frames (frame ∷ []) (rest (drop (n + length frame) bytes))

-- the first number only bounds the recursion, and is above the number of bytes
abbrev pub reading_from : ℕ → List ℕ → Reading
reading_from zero bytes = none_yet
reading_from (suc fuel) bytes = behind (next_from bytes) bytes (reading_from fuel)

-- the frames of a stream so far, and whether one that is too long comes behind them
unfoldable pub reading_of : List ℕ → Reading
reading_of bytes = reading_from (suc (length bytes)) bytes
