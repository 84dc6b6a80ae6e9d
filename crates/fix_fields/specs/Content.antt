-- The content of a frame: what stands behind BodyLength(9) and before CheckSum(10).
use Rattle.std.specs.Prelude.{◌≡◌, ℕ, ◌-◌, ◌≤◌, ◌==◌, if◌then◌else◌, List, [], ◌∷◌, length, take, drop}

-- what stands behind the first end of a field
unfoldable pub behind_first_end : List ℕ → List ℕ
behind_first_end [] = []
behind_first_end (byte ∷ bytes) = if byte == 1 then bytes else behind_first_end bytes

-- all but the last seven bytes, the check sum
abbrev pub without_check_sum : List ℕ → List ℕ
without_check_sum rest = take (length rest - 7) rest

-- what stands behind the frame's first two fields, the first of which has eleven bytes, and before its last
unfoldable pub content_of : List ℕ → List ℕ
content_of frame = without_check_sum (behind_first_end (drop 11 frame))

-- the content begins behind so many bytes, or would begin there
pub record IsFront (frame : List ℕ) (front : ℕ) : Type 0 where
  pub inside : front ≤ length frame
  pub behind : drop front frame ≡ behind_first_end (drop 11 frame)
