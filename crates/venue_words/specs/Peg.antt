-- The price that a peg gives, said in values and so in one way for both sides.
use Rattle.std.specs.Prelude.{ℕ, suc, ◌+◌, ◌-◌, ◌*◌, ◌/◌, min, Bool, true, false, ◌&&◌, ◌||◌, nat_le, nat_lt, if◌then◌else◌, ℤ, pos, negsuc, Option, Some, None, option_map, unwrap_or}
use Rattle.venue_words.specs.declared.price.TheConstants.{PRICE_END}
use Rattle.venue_words.specs.declared.price.Side.{Side}
use Rattle.venue_words.specs.declared.price.Side.TheVariants.{Buy, Sell}
use Rattle.venue_words.specs.declared.price.Best.{Best}
use Rattle.venue_words.specs.declared.row.Key.{Key}
use Rattle.venue_words.specs.declared.row.Row.{Row}
use Rattle.venue_words.specs.declared.row.Reference.{Reference}
use Rattle.venue_words.specs.declared.row.Reference.TheVariants.{Mid, Primary, Market, Limit}
use Rattle.venue_words.specs.declared.row.Rounding.{Rounding}
use Rattle.venue_words.specs.declared.row.Rounding.TheVariants.{Unrounded, Aggressive, Passive}
use Rattle.venue_words.specs.Price.{value_of}
use Rattle.venue_words.specs.Best.{is_regular, is_locked}

-- the value of a price in cents, which are 2 units each; with no price there is no quote, and 0 is not read
abbrev pub cents_value : Side → Option ℕ → ℕ
cents_value side cents = value_of side (2 * unwrap_or cents 0)

-- the value of the national price of the order's own side
abbrev pub near_value : Side → Best → ℕ
near_value Buy best = cents_value Buy best.bid
near_value Sell best = cents_value Sell best.offer

-- the value of the national price of the other side
abbrev pub far_value : Side → Best → ℕ
far_value Buy best = cents_value Buy best.offer
far_value Sell best = cents_value Sell best.bid

-- whether a reference is there on a locked quote
abbrev pub holds_when_locked : Reference → Bool
holds_when_locked Mid = false
holds_when_locked Primary = true
holds_when_locked Market = false
holds_when_locked Limit = true

-- whether the quote gives the reference a price
abbrev pub has_reference : Reference → Best → Bool
has_reference reference best = is_regular best || (is_locked best && holds_when_locked reference)

-- the reference between the near and the far value
abbrev pub reference_value : Reference → ℕ → ℕ → ℕ
reference_value Mid near far = (near + far) / 2
reference_value Primary near far = near
reference_value Market near far = far
reference_value Limit near far = far

-- the value with the offset added for a buy, and subtracted for a sell; what falls below 0 counts as 0, which is no price either
abbrev pub shifted : Side → ℤ → ℕ → ℕ
shifted Buy (pos n) value = value + n
shifted Buy (negsuc n) value = value - suc n
shifted Sell (pos n) value = value - n
shifted Sell (negsuc n) value = value + suc n

-- the least multiple of the grid at or above it, the greatest at or below it, or the value as it is
abbrev pub rounded : Rounding → ℕ → ℕ → ℕ
rounded Unrounded grid value = value
rounded Aggressive grid value = (value + (grid - 1)) / grid * grid
rounded Passive grid value = value / grid * grid

-- the value, where it is that of a price
abbrev pub in_range : ℕ → Option ℕ
in_range value = if nat_le 1 value && nat_lt value PRICE_END then Some value else None

-- the value of a key's peg price, or none
unfoldable pub peg_value : Key → Best → Option ℕ
peg_value key best =
    let near = near_value key.side best in
    let far = far_value key.side best in
    let target = shifted key.side key.offset (reference_value key.reference near far) in
    if has_reference key.reference best then in_range (min (rounded key.rounding key.grid target) far) else None

-- a peg's value, held back by the limit's
abbrev pub row_value : Option ℕ → ℕ → Option ℕ
row_value peg cap = option_map (λ value. min value cap) peg

-- the value of a row under a quote, or none
unfoldable pub value_under : Best → Row → Option ℕ
value_under best row = row_value (peg_value row.key best) row.cap
