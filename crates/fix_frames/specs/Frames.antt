-- Frames as they are spelled.
use Rattle.std.specs.Prelude.{◌≡◌, ℕ, ◌%◌, ◌<◌, ◌≤◌, List, [], ◌∷◌, ◌++◌, length, sum, codes, Some}
use Rattle.venue_words.specs.declared.limits.TheConstants.{SOH}
use Rattle.fix_fields.specs.Forms.{numeral}
use Rattle.fix_write.specs.Digits.{three_digits}

-- BeginString, and BodyLength with these digits
abbrev pub header : List ℕ → List ℕ
header digits = codes "8=FIXT.1.1" ++ SOH ∷ (codes "9=" ++ (digits ++ SOH ∷ []))

-- CheckSum behind these bytes: their sum modulo 256 in three digits
abbrev pub check_sum : List ℕ → List ℕ
check_sum bytes = codes "10=" ++ (three_digits (sum bytes % 256) ++ SOH ∷ [])

-- a list that ends with SOH
pub record EndsWithSoh (xs : List ℕ) : Type 0 where
  pub most : List ℕ
  pub ends : xs ≡ most ++ SOH ∷ []

-- a frame: BeginString, BodyLength in 1 to 5 digits, as many bytes of content, which begins with `35=` and ends with SOH, and
-- the CheckSum of all of these
pub record IsFrame (frame : List ℕ) : Type 0 where
  pub digits : List ℕ
  pub content : List ℕ
  pub start : List ℕ
  pub bytes : frame ≡ (header digits ++ content) ++ check_sum (header digits ++ content)
  pub some : 0 < length digits
  pub few : length digits ≤ 5
  pub counts : numeral digits ≡ Some (length content)
  pub opens : content ≡ codes "35=" ++ start
  pub closes : EndsWithSoh content
