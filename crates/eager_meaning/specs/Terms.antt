-- What the terms of an order say. Amounts are counted in 10^-8.
use Rattle.std.specs.Prelude.{ℕ, ◌-◌, ◌%◌, ◌==◌, Bool, false, ◌&&◌, nat_lt, nat_le, if◌then◌else◌, List, ℤ, pos, negsuc, ◌*ℤ◌, int_le, int_div, int_rem, unsigned_abs, Option, Some, None, option_map, option_and_then, unwrap_or, codes}
use Rattle.std.specs.Ordering.{int_eq}
use Rattle.std.specs.Option.{option_map_or}
use Rattle.std.specs.Bool.{then_some}
use Rattle.std.specs.List.{list_any}
use Rattle.venue_words.specs.declared.price.TheConstants.{PRICE_END}
use Rattle.venue_words.specs.declared.price.Side.{Side}
use Rattle.venue_words.specs.declared.price.Side.TheVariants.{Buy, Sell}
use Rattle.venue_words.specs.declared.row.Key.{Key}
use Rattle.venue_words.specs.declared.row.Row.{Row}
use Rattle.venue_words.specs.declared.row.Reference.{Reference}
use Rattle.venue_words.specs.declared.row.Reference.TheVariants.{Mid, Primary, Market, Limit}
use Rattle.venue_words.specs.declared.row.Rounding.{Rounding}
use Rattle.venue_words.specs.declared.row.Rounding.TheVariants.{Unrounded, Aggressive, Passive}
use Rattle.venue_words.specs.declared.row.Method.{Method}
use Rattle.venue_words.specs.declared.row.Method.TheVariants.{Once, Multiple}
use Rattle.venue_words.specs.declared.terms.Terms.{Terms}
use Rattle.venue_words.specs.Price.{value_of}
use Rattle.eager_meaning.specs.declared.amount.TheConstants.{ONE_AMOUNT, UNIT_AMOUNT}

-- ---- codes

-- whether a code is there and passes a test
abbrev pub passes : (ℕ → Bool) → Option ℕ → Bool
passes test code = option_map_or test code false

-- whether a code is one of these
abbrev pub is_among : List ℕ → ℕ → Bool
is_among allowed code = list_any (λ x. x == code) allowed

-- ---- amounts

-- how many times an amount has a part, where it is a whole number of times
abbrev pub whole_quotient : ℤ → ℤ → Option ℤ
whole_quotient part amount = then_some (int_eq (int_rem amount part) (pos 0)) (int_div amount part)

-- a number, where it is from low to high
abbrev pub within : ℤ → ℤ → ℤ → Option ℤ
within low high number = then_some (int_le low number && int_le number high) number

-- a whole number of shares from 1 to 999,999,999
unfoldable pub quantity_in : ℤ → Option ℕ
quantity_in amount =
    option_map unsigned_abs (option_and_then (within (pos 1) (pos 999999999)) (whole_quotient ONE_AMOUNT amount))

-- a price from 0.01 to 19,999.99 in units, where it is a whole number of ticks
unfoldable pub price_in : ℕ → ℤ → Option ℕ
price_in tick amount =
    option_and_then (λ units. then_some (units % tick == 0) units)
    (option_map unsigned_abs (option_and_then (within (pos 2) (pos 3999998)) (whole_quotient UNIT_AMOUNT amount)))

-- an offset in units from -200 to 200: an amount of price, or by code 2 a number of ticks
unfoldable pub offset_in : ℕ → Option ℕ → ℤ → Option ℤ
offset_in tick offset_kind amount =
    option_and_then (within (negsuc 199) (pos 200))
    (if passes (λ code. code == 2) offset_kind
    then option_map (λ ticks. ticks *ℤ pos tick) (whole_quotient ONE_AMOUNT amount)
    else whole_quotient UNIT_AMOUNT amount)

-- a whole number of shares, at most so many
unfoldable pub minimum_in : ℕ → ℤ → Option ℕ
minimum_in quantity amount =
    option_and_then (λ shares. then_some (nat_le shares quantity) shares)
    (option_map unsigned_abs (option_and_then (within (pos 0) (pos 999999999)) (whole_quotient ONE_AMOUNT amount)))

-- ---- the parts of an order

-- code `1` is a buy, and `2` a sell
abbrev pub side_of : Terms → Side
side_of terms = if is_among (codes "1") terms.side then Buy else Sell

-- whether the order is pegged, and not a limit order
abbrev pub is_pegged : Terms → Bool
is_pegged terms = is_among (codes "P") terms.kind

-- the shares
abbrev pub quantity_of : Terms → ℕ
quantity_of terms = unwrap_or (quantity_in terms.quantity) 0

-- the limit in units, or none
abbrev pub limit_of : ℕ → Terms → Option ℕ
limit_of tick terms = option_and_then (price_in tick) terms.price

-- the limit's value; with no limit there is nothing above
abbrev pub cap_of : ℕ → Terms → ℕ
cap_of tick terms = option_map_or (value_of (side_of terms)) (limit_of tick terms) PRICE_END

-- code 2 is Mid, 4 is Market, and 5 is Primary
abbrev pub peg_reference : Option ℕ → Reference
peg_reference peg =
    if passes (λ code. code == 2) peg then Mid else (if passes (λ code. code == 4) peg then Market else Primary)

-- code 1 is Aggressive and 2 is Passive
abbrev pub rounding_of : Option ℕ → Rounding
rounding_of None = Unrounded
rounding_of (Some code) = if code == 1 then Aggressive else Passive

-- the offset in units; with none it is 0
abbrev pub offset_of : ℕ → Terms → ℤ
offset_of tick terms = unwrap_or (option_and_then (offset_in tick terms.offset_kind) terms.offset) (pos 0)

-- the key of the terms; a limit order follows the far price, with nothing added
unfoldable pub key_of : ℕ → Terms → Key
key_of tick terms =
    if is_pegged terms
    then
    record {
      side = side_of terms;
      reference = peg_reference terms.peg;
      offset = offset_of tick terms;
      rounding = rounding_of terms.round;
      grid = tick;
    }
    else record { side = side_of terms; reference = Limit; offset = pos 0; rounding = Unrounded; grid = tick }

-- code 2 is Multiple; with none it is Once
abbrev pub method_of : Terms → Method
method_of terms = if passes (λ code. code == 2) terms.method then Multiple else Once

-- the minimum quantity, or 0
abbrev pub minimum_of : Terms → ℕ
minimum_of terms = unwrap_or (option_and_then (minimum_in (quantity_of terms)) terms.minimum) 0

-- whether what does not trade at once is canceled
abbrev pub is_immediate : Terms → Bool
is_immediate terms = passes (is_among (codes "3")) terms.force

-- the row with which an order of these terms enters at an event, after so many of its shares traded
unfoldable pub row_of : ℕ → ℕ → ℕ → ℕ → ℕ → Terms → Row
row_of tick event order member cum terms =
    record {
      order = order;
      member = member;
      key = key_of tick terms;
      cap = cap_of tick terms;
      entry = event;
      leaves = quantity_of terms - cum;
      minimum = minimum_of terms;
      method = method_of terms;
      traded = nat_lt 0 cum;
    }
