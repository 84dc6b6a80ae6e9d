-- Numbers as people read them.
use Rattle.std.specs.Prelude.{ℕ, ◌*◌, ◌/◌, ◌%◌, ◌==◌, ◌&&◌, not, if◌then◌else◌, List, [], ◌∷◌, ◌++◌, length, codes, decimal}
use Rattle.fix_write.specs.Digits.{three_digits}

-- digits with a comma before each three that end them
abbrev pub with_commas : List ℕ → List ℕ
with_commas [] = []
with_commas (digit ∷ digits) =
    if (length digits % 3 == 0) && not (length digits == 0)
    then digit ∷ 44 ∷ with_commas digits
    else digit ∷ with_commas digits

-- 1,234,567
abbrev pub count_text : ℕ → List ℕ
count_text count = with_commas (decimal count)

-- the value of shares at prices in units of 0.005, exact in thousandths
unfoldable pub value_text : ℕ → List ℕ
value_text value = count_text (value / 200) ++ codes "." ++ three_digits (value % 200 * 5)
