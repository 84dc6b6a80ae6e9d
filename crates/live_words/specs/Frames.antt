-- The frames that the lines of transcripts have for members.
use Rattle.std.specs.Prelude.{ℕ, ◌+◌, Bool, false, ◌==◌, cond, List, [], take, drop, position, unwrap_or, Option, None, Some}
use Rattle.std.specs.List.{flat_map}
use Rattle.quote_intake.specs.Quote.{number_in}
use Rattle.script_text.specs.Escaping.{text_of}
use Rattle.live_words.specs.declared.frames.Addressed.{Addressed}

-- whether this is a number
abbrev pub is_number : ℕ → Option ℕ → Bool
is_number n None = false
is_number n (Some other) = other == n

abbrev pub frame_behind : Option ℕ → List (List ℕ) → ℕ → List ℕ → List ℕ
frame_behind None names member line = []
frame_behind (Some space) names member line =
    cond (is_number member (number_in names (take space line))) (unwrap_or (text_of (drop (space + 1) line)) []) []

-- the frame that a line has for a member: what stands after his name and a space, unescaped; a line of another has none for him
abbrev pub frame_in : List (List ℕ) → ℕ → List ℕ → List ℕ
frame_in names member line = frame_behind (position (λ byte. byte == 32) line) names member line

-- the frame that a reading of a line has for a member
abbrev pub frame_for : Option Addressed → ℕ → List ℕ
frame_for None m = []
frame_for (Some found) m = cond (found.member == m) found.frame.items []

-- the frames that lines have for a member, one after another
abbrev pub frames_of : List (List ℕ) → ℕ → List (List ℕ) → List ℕ
frames_of names member lines = flat_map (frame_in names member) lines
