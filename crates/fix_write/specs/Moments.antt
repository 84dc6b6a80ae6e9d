-- The text of a moment.
use Rattle.std.specs.Prelude.{ℕ, suc, ◌+◌, ◌-◌, ◌*◌, ◌/◌, ◌%◌, min, nat_le, if◌then◌else◌, ℤ, pos, negsuc, List, ◌++◌, codes}
use Rattle.fix_write.specs.Digits.{two_digits, three_digits, four_digits}

-- a date of the calendar
pub record Civil : Type 0 where
  pub year : ℕ
  pub month : ℕ
  pub day : ℕ

-- years that begin in March, counted from the year -10000: the one in which so many days have passed, and its days before that
abbrev pub march_year : ℕ → ℕ
march_year days = 100 * ((4 * days + 3) / 146097) + ((4 * days + 3) % 146097 / 4 * 4 + 3) / 1461

abbrev pub march_day : ℕ → ℕ
march_day days = ((4 * days + 3) % 146097 / 4 * 4 + 3) % 1461 / 4

-- the month of such a year, from 3 to 14, and the day of the month
abbrev pub march_month : ℕ → ℕ
march_month days = (5 * march_day days + 461) / 153

abbrev pub day_of_month : ℕ → ℕ
day_of_month days = (5 * march_day days + 461) % 153 / 5 + 1

-- the date of a day, counted from 0000-01-01
unfoldable pub civil_of : ℕ → Civil
civil_of day =
    let days = day + 3652365 in
    if nat_le (march_month days) 12
    then record { year = march_year days - 10000; month = march_month days; day = day_of_month days }
    else record { year = march_year days + 1 - 10000; month = march_month days - 12; day = day_of_month days }

-- YYYYMMDD
unfoldable pub date_text : ℕ → List ℕ
date_text day = four_digits (civil_of day).year ++ two_digits (civil_of day).month ++ two_digits (civil_of day).day

-- HH:MM:SS.sss of a millisecond of the day
unfoldable pub clock_text : ℕ → List ℕ
clock_text millisecond =
    let second = millisecond / 1000 in
    two_digits (second / 3600)
    ++ codes ":" ++ two_digits (second / 60 % 60)
    ++ codes ":" ++ two_digits (second % 60)
    ++ codes "." ++ three_digits (millisecond % 1000)

-- the milliseconds from 0000-01-01 to a moment that counts from 1970-01-01, or to the nearest one of the years 0 to 9999
unfoldable pub milliseconds_of : ℤ → ℕ
milliseconds_of (pos n) = min (62167219200000 + n) 315569519999999
milliseconds_of (negsuc n) = 62167219200000 - suc n

-- YYYYMMDD-HH:MM:SS.sss
unfoldable pub moment_text : ℤ → List ℕ
moment_text moment =
    date_text (milliseconds_of moment / 86400000) ++ codes "-" ++ clock_text (milliseconds_of moment % 86400000)
