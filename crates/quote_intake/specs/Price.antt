-- The text of a price.
use Rattle.std.specs.Prelude.{ℕ, ◌+◌, ◌-◌, ◌*◌, nat_le, ◌==◌, Bool, ◌&&◌, ◌||◌, not, if◌then◌else◌, List, length, take, drop, fold, slice_index, Option, Some, None, option_map, option_and_then, codes}
use Rattle.std.specs.List.{list_all}
use Rattle.std.specs.Str.{bytes_eq}
use Rattle.venue_words.specs.declared.limits.TheConstants.{MAX_CENTS}

abbrev pub is_digit : ℕ → Bool
is_digit byte = nat_le 48 byte && nat_le byte 57

-- the number that digits write
abbrev pub number_of : List ℕ → ℕ
number_of digits = fold (λ number digit. number * 10 + (digit - 48)) 0 digits

-- the same, or none where a byte is no digit
unfoldable pub digits_of : List ℕ → Option ℕ
digits_of text = if list_all is_digit text then Some (number_of text) else None

-- a whole part of one to five bytes, a point and two bytes; the first is 0 only where the whole part is one byte
unfoldable pub has_form : List ℕ → Bool
has_form text =
    nat_le 4 (length text) && (nat_le (length text) 8 && ((slice_index text (length text - 3) == 46)
    && ((length text == 4) || not (slice_index text 0 == 48))))

-- the cents of a price from 0.01 to 19999.99
unfoldable pub in_range : ℕ → Option ℕ
in_range cents = if nat_le 1 cents && nat_le cents MAX_CENTS then Some cents else None

-- the cents of a price: digits without a needless 0 in front, a point and two digits, from 0.01 to 19999.99
unfoldable pub cents_of : List ℕ → Option ℕ
cents_of text =
    if has_form text
    then option_and_then (λ whole. option_and_then (λ cents.
    in_range (whole * 100 + cents))
    (digits_of (drop (length text - 3 + 1) text))) (digits_of (take (length text - 3) text))
    else None

-- a side of a quote: `-` is no price
unfoldable pub price_of : List ℕ → Option (Option ℕ)
price_of text = if bytes_eq text (codes "-") then Some None else option_map Some (cents_of text)
