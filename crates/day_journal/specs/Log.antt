-- How a file is read as a log of lines.
use Rattle.std.specs.Prelude.{◌≡◌, ◌⊎◌, ℕ, zero, suc, ◌+◌, Bool, true, false, ◌&&◌, List, [], ◌∷◌, ◌++◌, length, take, drop, slice_index, if◌then◌else◌, ◌==◌, ◌≤◌, nat_le, nat_lt}
use Rattle.std.specs.Int.{from_be_bytes, to_be_bytes, w32}
use Rattle.venue_words.specs.declared.limits.TheConstants.{MAX_LINE_BYTES}

-- the lines, and whether damage stands behind them
pub record Reading : Type 0 where
  pub lines : List (List ℕ)
  pub damaged : Bool

abbrev pub intact : List (List ℕ) → Reading
intact lines = record { lines = lines; damaged = false }

-- lines, and then what is read behind them
abbrev pub with_lines : List (List ℕ) → Reading → Reading
with_lines lines reading = record { lines = lines ++ reading.lines; damaged = reading.damaged }

-- the length behind a gate, most significant byte first
unfoldable pub length_in : List ℕ → ℕ
length_in bytes = from_be_bytes w32 (take 4 (drop 1 bytes))

-- the line behind a gate and its length
abbrev pub line_in : List ℕ → List ℕ
line_in bytes = take (length_in bytes) (drop 5 bytes)

-- the line isn't too long, and a byte follows it
abbrev pub is_whole : List ℕ → Bool
is_whole bytes = nat_le (length_in bytes) MAX_LINE_BYTES && nat_lt (5 + length_in bytes) (length bytes)

-- Reading goes on while the gate is open (1). `turns` is at least the number of bytes.
unfoldable pub read_from : ℕ → List ℕ → Reading
read_from zero bytes = intact []
read_from (suc turns) bytes =
    if slice_index bytes 0 == 1
    then (if is_whole bytes
    then with_lines (line_in bytes ∷ []) (read_from turns (drop (5 + length_in bytes) bytes))
    else record { lines = []; damaged = true })
    else intact []

-- what stands from a gate on
abbrev pub read_all : List ℕ → Reading
read_all bytes = read_from (length bytes) bytes

-- a file of at most one byte has no lines
unfoldable pub reading : List ℕ → Reading
reading file = if nat_le (length file) 1 then intact [] else read_all file

-- the bytes that lines take, with five more for each: the place of what stands behind them
abbrev pub size_of : List (List ℕ) → ℕ
size_of [] = 0
size_of (line ∷ lines) = 5 + length line + size_of lines

-- whole lines behind open gates, and a closed gate behind the last
abbrev pub blocks : List (List ℕ) → List ℕ
blocks [] = 0 ∷ []
blocks (line ∷ lines) = 1 ∷ (to_be_bytes w32 (length line) ++ (line ++ blocks lines))

-- a line that may be appended
abbrev pub IsShortLine : List ℕ → Type 0
IsShortLine line = length line ≤ MAX_LINE_BYTES

-- the file has these lines, with all of some more or with none of them
abbrev pub IsAllOrNone : List (List ℕ) → List (List ℕ) → List ℕ → Type 0
IsAllOrNone lines more file = (reading file ≡ intact lines) ⊎ (reading file ≡ intact (lines ++ more))

-- the file has these lines, with one more or without it
abbrev pub IsBeforeOrAfter : List (List ℕ) → List ℕ → List ℕ → Type 0
IsBeforeOrAfter lines line file = (reading file ≡ intact lines) ⊎ (reading file ≡ intact (lines ++ line ∷ []))

-- the file reads so
abbrev pub ReadsAs : Reading → List ℕ → Type 0
ReadsAs found file = reading file ≡ found
