-- A file in the middle of its lines, and what a call reads of it.
use Rattle.std.specs.Prelude.{◌≡◌, ◌≤◌, ◌<◌, ◌+◌, ◌++◌, ◌^◌, ℕ, List, [], Option, false, length, take, slice_range}
use Rattle.std.specs.Io.KnownBytes.{Consumes, prepend_known}
use Rattle.venue_words.specs.declared.limits.TheConstants.{MAX_LINE_BYTES}
use Rattle.script_text.specs.Lines.{has_end}

-- the lines that were handed out, the bytes up to there, the greatest number of bytes, and the bytes that were read behind
pub record Reading : Type 0 where
  pub lines : ℕ
  pub bytes : ℕ
  pub most : ℕ
  pub held : List ℕ

-- the held bytes are a part of a buffer
abbrev pub reading : ℕ → ℕ → ℕ → List ℕ → ℕ → ℕ → Reading
reading lines bytes most buffer start end =
    record { lines = lines; bytes = bytes; most = most; held = slice_range buffer start end }

-- the part lies in a buffer of this size; each line has a byte, and at most one line is past the greatest number
pub record IsSound (lines bytes most size start end : ℕ) : Type 0 where
  pub order : start ≤ end
  pub inside : end ≤ size
  pub size_is : size ≡ MAX_LINE_BYTES + 65536
  pub counted : lines ≤ bytes
  pub within : bytes ≤ most + MAX_LINE_BYTES + 1
  pub few : most < 2 ^ 31

-- before the first line
abbrev pub before_lines : ℕ → ℕ → Reading
before_lines already most = record { lines = 0; bytes = already; most = most; held = [] }

-- no line was handed out, and these bytes are held
abbrev pub holds : Reading → List ℕ → Reading
holds reading held = record reading { held = held }

-- a call read some bytes of the shelf, and with those that were held before they are all these
pub record Reads (before left : Option (List ℕ)) (held all : List ℕ) : Type 0 where
  pub given : List ℕ
  pub taken : Consumes before left given
  pub whole : held ++ given ≡ all

-- bytes without an end of line that are too many for a line begin the text
pub record BeginsTooLong (text : List ℕ) : Type 0 where
  pub long : MAX_LINE_BYTES < length text
  pub clear : has_end (take (MAX_LINE_BYTES + 1) text) ≡ false

-- what is ahead in the file, where the shelf tells it: the bytes that are held, and then what the shelf has left
abbrev pub ahead : List ℕ → Option (List ℕ) → Option (List ℕ)
ahead held left = prepend_known held left
