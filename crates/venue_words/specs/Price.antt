-- Prices as values: one rule for both sides.
use Rattle.std.specs.Prelude.{ℕ, ◌+◌, ◌-◌, Bool, false, nat_le, Option, Some, None, is_some, option_map}
use Rattle.venue_words.specs.declared.price.TheConstants.{PRICE_END}
use Rattle.venue_words.specs.declared.price.Side.{Side}
use Rattle.venue_words.specs.declared.price.Side.TheVariants.{Buy, Sell}
use Rattle.venue_words.specs.declared.row.Priced.{Priced}

-- the value of a price: the greater value is the more aggressive price
abbrev pub value_of : Side → ℕ → ℕ
value_of Buy price = price
value_of Sell price = PRICE_END - price

-- the price that has a value
abbrev pub price_of : Side → ℕ → ℕ
price_of Buy value = value
price_of Sell value = PRICE_END - value

-- whether a row has a price at present
abbrev pub is_active : Priced → Bool
is_active x = is_some x.value

-- the price of a row, or none where it is inactive
abbrev pub price_shown : Priced → Option ℕ
price_shown x = option_map (price_of x.row.key.side) x.value

-- whether two values of opposite sides meet, so that the buy's price is at least the sell's
abbrev pub values_cross : Option ℕ → Option ℕ → Bool
values_cross None w = false
values_cross (Some v) None = false
values_cross (Some v) (Some w) = nat_le PRICE_END (v + w)

-- whether two active rows of opposite sides cross
abbrev pub crosses : Priced → Priced → Bool
crosses x y = values_cross x.value y.value
