-- The texts of identifiers, prices and amounts.
use Rattle.std.specs.Prelude.{ℕ, zero, suc, ◌*◌, ◌/◌, ◌%◌, ◌^◌, ◌==◌, if◌then◌else◌, ℤ, pos, negsuc, List, [], ◌∷◌, ◌++◌, codes, decimal, Option, Some, None}
use Rattle.fix_write.specs.Digits.{digit, four_digits}

-- OrderID: SYMBOL-first, or NONE where no order is meant
unfoldable pub order_id : List ℕ → Option ℕ → List ℕ
order_id symbol None = codes "NONE"
order_id symbol (Some first) = symbol ++ codes "-" ++ decimal first

-- ExecID: SYMBOL-event-place, or 0-MEMBER-place for a message that came to no book
unfoldable pub exec_id : List ℕ → List ℕ → ℕ → ℕ → List ℕ
exec_id symbol member event place =
    if event == 0 then codes "0-" ++ member ++ codes "-" ++ decimal place
    else symbol ++ codes "-" ++ decimal event ++ codes "-" ++ decimal place

-- ten-thousandths as a number with four decimals
unfoldable pub ten_thousandths : ℕ → List ℕ
ten_thousandths n = decimal (n / 10000) ++ codes "." ++ four_digits (n % 10000)

-- a price in units of 0.005
unfoldable pub price_text : ℕ → List ℕ
price_text units = decimal (units / 200) ++ codes "." ++ four_digits (units % 200 * 50)

-- the average price: the sum of price times quantity over the quantity, cut off
unfoldable pub average_text : ℕ → ℕ → List ℕ
average_text notional cum = if cum == 0 then ten_thousandths 0 else ten_thousandths (notional * 50 / cum)

-- so many digits of a number, with zeros in front
abbrev pub padded : ℕ → ℕ → List ℕ
padded zero n = []
padded (suc places) n = padded places (n / 10) ++ digit n ∷ []

-- the same without the zeros at the end
abbrev pub trimmed : ℕ → ℕ → List ℕ
trimmed zero n = []
trimmed (suc places) n = if n % 10 == 0 then trimmed places (n / 10) else padded (suc places) n

-- an amount without its sign, in units of 10^-8: its whole part, and where there is a fraction a point and that
unfoldable pub magnitude_text : ℕ → List ℕ
magnitude_text units = decimal (units / 10 ^ 8) ++ (if units % 10 ^ 8 == 0 then [] else 46 ∷ trimmed 8 (units % 10 ^ 8))

-- an amount
unfoldable pub amount_text : ℤ → List ℕ
amount_text (pos units) = magnitude_text units
amount_text (negsuc units) = codes "-" ++ magnitude_text (suc units)
