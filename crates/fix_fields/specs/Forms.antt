-- The forms of the values of fields.
use Rattle.std.specs.Prelude.{ℕ, ◌+◌, ◌-◌, ◌*◌, ◌^◌, nat_le, nat_lt, ◌==◌, Bool, ◌&&◌, ◌||◌, not, if◌then◌else◌, List, length, take, drop, slice_index, Option, Some, None, option_map, ℤ, pos, neg_ℤ, ◌+ℤ◌, ◌*ℤ◌}
use Rattle.std.specs.List.{list_all, before_first, after_first}
use Rattle.std.specs.Char.{is_ascii_digit}
use Rattle.std.specs.Str.Parse.{digits_value}
use Rattle.std.specs.Option.{option_and_then}
use Rattle.jiff_core.specs.Calendar.{days_in_month, days_from_civil}

-- the value of digits, or none where a byte is no digit
unfoldable pub numeral : List ℕ → Option ℕ
numeral bytes = if list_all is_ascii_digit bytes then Some (digits_value 10 bytes) else None

-- a number: 1 to 9 digits
unfoldable pub number_of : List ℕ → Option ℕ
number_of bytes = if (length bytes == 0) || nat_lt 9 (length bytes) then None else numeral bytes

-- a tag: 1 to 5 digits, the first not 0
unfoldable pub tag_of : List ℕ → Option ℕ
tag_of bytes = if (length bytes == 0) || (nat_lt 5 (length bytes) || (slice_index bytes 0 == 48)) then None else numeral bytes

-- the bytes without a leading '-'
abbrev pub unsigned_part : List ℕ → List ℕ
unsigned_part bytes = if slice_index bytes 0 == 45 then drop 1 bytes else bytes

-- whether a byte is the point
abbrev pub is_point : ℕ → Bool
is_point byte = byte == 46

-- an amount without a sign, in units of 10^-8: at most 18 digits before the point and 8 behind it, at least one of them
unfoldable pub unsigned_amount : List ℕ → Option ℕ
unsigned_amount bytes =
    let whole = before_first is_point bytes in
    let fraction = after_first is_point bytes in
    if nat_lt 18 (length whole) || (nat_lt 8 (length fraction) || (length whole + length fraction == 0)) then None
    else option_and_then (λ units. option_map (λ parts.
    units * 10 ^ 8 + parts * 10 ^ (8 - length fraction))
    (numeral fraction)) (numeral whole)

-- an amount, which may be negative
unfoldable pub amount_of : List ℕ → Option ℤ
amount_of bytes =
    option_map (λ units. if slice_index bytes 0 == 45 then neg_ℤ (pos units) else pos units)
    (unsigned_amount (unsigned_part bytes))

-- whether the calendar has the date
abbrev pub is_date : ℕ → ℕ → ℕ → Bool
is_date year month day = nat_le 1 month && (nat_le month 12 && (nat_le 1 day && nat_le day (days_in_month (pos year) month)))

-- the day number of a date, counted from 1970-01-01, where the calendar has it
unfoldable pub civil_day : ℕ → ℕ → ℕ → Option ℤ
civil_day year month day = if is_date year month day then Some (days_from_civil (pos year) month day) else None

-- the day number of YYYYMMDD
unfoldable pub day_number : List ℕ → Option ℤ
day_number text =
    option_and_then (λ year. option_and_then (λ month. option_and_then (λ day. civil_day year month day)
    (numeral (take 2 (drop 6 text)))) (numeral (take 2 (drop 4 text)))) (numeral (take 4 text))

-- the second of the day of HH:MM:SS: hours to 23, minutes and seconds to 59
unfoldable pub second_of_day : List ℕ → Option ℕ
second_of_day text =
    if (slice_index text 2 == 58) && (slice_index text 5 == 58) then
    option_and_then (λ hour. option_and_then (λ minute. option_and_then (λ second.
    if nat_le hour 23 && (nat_le minute 59 && nat_le second 59) then Some ((hour * 60 + minute) * 60 + second) else None)
    (numeral (take 2 (drop 6 text)))) (numeral (take 2 (drop 3 text)))) (numeral (take 2 text))
    else None

-- what stands behind the seconds, in milliseconds: nothing, or a point and 3, 6 or 9 digits, of which the first three count
unfoldable pub milliseconds : List ℕ → Option ℕ
milliseconds text =
    if length text == 0 then Some 0
    else (if (slice_index text 0 == 46) && ((length text == 4) || ((length text == 7) || (length text == 10)))
    then option_and_then (λ counted. option_map (λ _. counted) (numeral (drop 4 text))) (numeral (take 3 (drop 1 text)))
    else None)

-- a moment: YYYYMMDD-HH:MM:SS with or without a fraction, in milliseconds since 1970-01-01 00:00 UTC
unfoldable pub moment_of : List ℕ → Option ℤ
moment_of text =
    if nat_lt (length text) 17 || not (slice_index text 8 == 45) then None
    else option_and_then (λ day. option_and_then (λ second. option_map (λ behind.
    day *ℤ pos 86400000 +ℤ pos (second * 1000 + behind))
    (milliseconds (drop 17 text))) (second_of_day (take 8 (drop 9 text)))) (day_number (take 8 text))
