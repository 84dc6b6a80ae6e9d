-- The text of a side of a quote.
use Rattle.std.specs.Prelude.{ℕ, ◌+◌, ◌/◌, ◌%◌, List, [], ◌∷◌, ◌++◌, Option, Some, None, codes, decimal}

-- a price in cents: the whole part without needless zeros, a point and two digits
unfoldable pub cents_text : ℕ → List ℕ
cents_text cents = decimal (cents / 100) ++ 46 ∷ (48 + cents / 10 % 10) ∷ (48 + cents % 10) ∷ []

-- a side of a quote: `-` is a side without a price
unfoldable pub side_text : Option ℕ → List ℕ
side_text (Some cents) = cents_text cents
side_text None = codes "-"
