-- A moment that is written is read as the same.
use Rattle.std.proofs.Common.{◌≡◌, ℕ, suc, ◌+◌, ◌*◌, ◌/◌, ◌%◌, ◌<◌, ◌≤◌, true, false, List, [], ◌∷◌, ◌++◌, length, take, drop, get_or, Some, ℤ, pos, negsuc, ◌+ℤ◌, ◌*ℤ◌, ◌<ℤ◌, ◌≤ℤ◌, refl, sym, ◌∙◌, ap, arith, leb, ltb, eqb, append_assoc, length-append}
use Rattle.std.specs.Char.{is_ascii_digit, digit_value}
use Rattle.std.proofs.lemmas.Bool.{and_from, le-leb}
use Rattle.std.proofs.lemmas.Bool.Decides.{nat_tests}
use Rattle.std.proofs.lemmas.Int.{ints}
use Rattle.std.proofs.lemmas.List.{take_at, drop_at, drop-drop, get_or_at}
use Rattle.jiff_core.specs.Calendar.{IsCivilDate, days_in_month, days_from_civil}
use Rattle.jiff_core.proofs.SignedLemmas.{signed_arith}
use Rattle.jiff_core.proofs.CalendarLemmas.{days_from_civil-day_count, days_in_month_bounds}
use Rattle.fix_fields.specs.Forms.{numeral, is_date, civil_day, day_number, second_of_day, milliseconds, moment_of}
use Rattle.fix_write.specs.Digits.{digit, two_digits, three_digits, four_digits}
use Rattle.fix_write.specs.Lengths.{length-date_text, length-clock_text}
use Rattle.fix_write.specs.Moments.{civil_of, date_text, clock_text, milliseconds_of, moment_text}
use Rattle.fix_fields.specs.declared.moments.TheConstants.{FIRST_MOMENT, LAST_MOMENT}
use Rattle.fix_write.proofs.CivilDates.{civil_valid, civil_count}

is_digit : (n : ℕ) → is_ascii_digit (digit n) ≡ true
is_digit n = grind (arith, nat_tests)

worth : (n : ℕ) → digit_value (digit n) ≡ n % 10
worth n = grind (arith, nat_tests)

some_is : (a b : ℕ) → a ≡ b → Some a ≡ Some b
some_is a b e = ap (λ (k : ℕ). Some k) e

numeral-two : (n : ℕ) → n < 100 → numeral (two_digits n) ≡ Some n
unfolding numeral two_digits
numeral-two n h =
    let a = is_digit (n / 10) in
    let b = is_digit n in
    rw (a, b) (some_is _ n (rw (worth (n / 10), worth n) (omega arith)))

numeral-three : (n : ℕ) → n < 1000 → numeral (three_digits n) ≡ Some n
unfolding numeral three_digits
numeral-three n h =
    let a = is_digit (n / 100) in
    let b = is_digit (n / 10) in
    let c = is_digit n in
    rw (a, b, c) (some_is _ n (rw (worth (n / 100), worth (n / 10), worth n) (omega arith)))

numeral-four : (n : ℕ) → n < 10000 → numeral (four_digits n) ≡ Some n
unfolding numeral four_digits
numeral-four n h =
    let a = is_digit (n / 1000) in
    let b = is_digit (n / 100) in
    let c = is_digit (n / 10) in
    let d = is_digit n in
    rw (a, b, c, d) (some_is _ n (rw (worth (n / 1000), worth (n / 100), worth (n / 10), worth n) (omega arith)))

-- a date that the calendar has, as it is written
day_number-written : (year month day : ℕ) → year < 10000 → month < 100 → day < 100 → day_number (four_digits year ++ two_digits month ++ two_digits day) ≡ civil_day year month day
unfolding day_number four_digits two_digits
day_number-written year month day y m d =
    let text = four_digits year ++ two_digits month ++ two_digits day in
    let a : numeral (take 4 text) ≡ Some year = numeral-four year y in
    let b : numeral (take 2 (drop 4 text)) ≡ Some month = numeral-two month m in
    let c : numeral (take 2 (drop 6 text)) ≡ Some day = numeral-two day d in
    rw (a, b, c) refl

is_date-valid : (year month day : ℕ) → IsCivilDate (pos year) month day → is_date year month day ≡ true
is_date-valid year month day h =
    and_from _ _ (le-leb _ _ h.1.0) (and_from _ _ (le-leb _ _ h.1.1) (and_from _ _ (le-leb _ _ h.2.0) (le-leb _ _ h.2.1)))

civil_day-valid : (year month day : ℕ) → IsCivilDate (pos year) month day → civil_day year month day ≡ Some (days_from_civil (pos year) month day)
unfolding civil_day
civil_day-valid year month day h = rw (is_date-valid year month day h) refl

-- the number of a day, counted from 0000-01-01, is that from 1970-01-01 and the days between
number_of_day : (day : ℕ) → day < 3652425 → days_from_civil (pos (civil_of day).year) (civil_of day).month (civil_of day).day +ℤ pos 719528 ≡ pos day
number_of_day day h =
    let c = civil_of day in
    omega (arith, signed_arith, civil_count day h, days_from_civil-day_count (pos c.year) c.month c.day)

date_text-read : (day : ℕ) → day < 3652425 → (number : ℤ) × (number +ℤ pos 719528 ≡ pos day) × (day_number (date_text day) ≡ Some number)
unfolding date_text
date_text-read day h =
    let c = civil_of day in
    let valid = civil_valid day h in
    let year : c.year < 10000 = omega (arith, ints, valid.0) in
    let most : days_in_month (pos c.year) c.month ≤ 31 = (days_in_month_bounds (pos c.year) c.month).0 in (
      days_from_civil (pos c.year) c.month c.day,
      number_of_day day h,
      day_number-written c.year c.month c.day year (omega (arith, valid.1)) (omega (arith, valid.2)) ∙ civil_day-valid c.year c.month c.day valid,
    )

clock_read : (hour minute second : ℕ) → hour ≤ 23 → minute ≤ 59 → second ≤ 59 → second_of_day (two_digits hour ++ 58 ∷ [] ++ two_digits minute ++ 58 ∷ [] ++ two_digits second) ≡ Some ((hour * 60 + minute) * 60 + second)
unfolding second_of_day two_digits
clock_read hour minute second h m s =
    let text = two_digits hour ++ 58 ∷ [] ++ two_digits minute ++ 58 ∷ [] ++ two_digits second in
    let a : numeral (take 2 text) ≡ Some hour = numeral-two hour (omega arith) in
    let b : numeral (take 2 (drop 3 text)) ≡ Some minute = numeral-two minute (omega arith) in
    let c : numeral (take 2 (drop 6 text)) ≡ Some second = numeral-two second (omega arith) in
    let x : leb hour 23 ≡ true = le-leb _ _ h in
    let y : leb minute 59 ≡ true = le-leb _ _ m in
    let z : leb second 59 ≡ true = le-leb _ _ s in
    rw (a, b, c, x, y, z) refl

numeral-nil : numeral [] ≡ Some 0
unfolding numeral
numeral-nil = refl

milliseconds-read : (n : ℕ) → n < 1000 → milliseconds (46 ∷ three_digits n) ≡ Some n
unfolding milliseconds three_digits
milliseconds-read n h =
    let text = 46 ∷ three_digits n in
    let a : numeral (take 3 (drop 1 text)) ≡ Some n = numeral-three n h in
    let b : numeral (drop 4 text) ≡ Some 0 = numeral-nil in
    rw (a, b) refl

-- a millisecond of the day, as it is written
clock_text-read : (millisecond : ℕ) → millisecond < 86400000 → (second_of_day (take 8 (clock_text millisecond)) ≡ Some (millisecond / 1000)) × (milliseconds (drop 8 (clock_text millisecond)) ≡ Some (millisecond % 1000))
unfolding clock_text two_digits three_digits
clock_text-read millisecond h =
    let second = millisecond / 1000 in
    let whole : (second / 3600 * 60 + second / 60 % 60) * 60 + second % 60 ≡ second = omega arith in (
      clock_read (second / 3600) (second / 60 % 60) (second % 60) (omega arith) (omega arith) (omega arith) ∙ some_is _ _ whole,
      milliseconds-read (millisecond % 1000) (omega arith),
    )

-- the parts of a moment's text
moment_of-parts : (date clock : List ℕ) (number : ℤ) (second part : ℕ) → length date ≡ 8 → length clock ≡ 12 → day_number date ≡ Some number → second_of_day (take 8 clock) ≡ Some second → milliseconds (drop 8 clock) ≡ Some part → moment_of (date ++ 45 ∷ [] ++ clock) ≡ Some (number *ℤ pos 86400000 +ℤ pos (second * 1000 + part))
unfolding moment_of
moment_of-parts date clock number second part eight twelve d s m =
    let text = date ++ 45 ∷ [] ++ clock in
    let split : text ≡ date ++ 45 ∷ clock = append_assoc date (45 ∷ []) clock in
    let long : length text ≡ 21 = omega (arith, ap length split, length-append date (45 ∷ clock)) in
    let enough : ltb (length text) 17 ≡ false = rw long refl in
    let dash : eqb (get_or text 8 0) 45 ≡ true = rw (ap (λ (x : List ℕ). get_or x 8 0) split ∙ get_or_at date 45 clock 0 8 eight) refl in
    let a : day_number (take 8 text) ≡ Some number = ap (λ (x : List ℕ). day_number (take 8 x)) split ∙ ap day_number (take_at date (45 ∷ clock) 8 eight) ∙ d in
    let nine : drop 9 text ≡ clock = ap (drop 9) split ∙ sym (drop-drop 1 8 (date ++ 45 ∷ clock)) ∙ ap (drop 1) (drop_at date (45 ∷ clock) 8 eight) in
    let b : second_of_day (take 8 (drop 9 text)) ≡ Some second = ap (λ (x : List ℕ). second_of_day (take 8 x)) nine ∙ s in
    let c : milliseconds (drop 17 text) ≡ Some part = ap milliseconds (sym (drop-drop 8 9 text) ∙ ap (drop 8) nine) ∙ m in
    rw (enough, dash, a, b, c) refl

-- a count of milliseconds from 0000-01-01 on, as it is written
text-read : (n : ℕ) (moment : ℤ) → n < 315569520000000 → moment +ℤ pos 62167219200000 ≡ pos n → moment_of (date_text (n / 86400000) ++ 45 ∷ [] ++ clock_text (n % 86400000)) ≡ Some moment
text-read n moment small e =
    let date = date_text-read (n / 86400000) (omega arith) in
    let clock = clock_text-read (n % 86400000) (omega arith) in
    let sum : date.0 *ℤ pos 86400000 +ℤ pos (n % 86400000 / 1000 * 1000 + n % 86400000 % 1000) ≡ moment = omega (arith, signed_arith, date.1) in
    moment_of-parts (date_text (n / 86400000)) (clock_text (n % 86400000)) date.0 _ _ (length-date_text (n / 86400000)) (length-clock_text (n % 86400000)) date.2 clock.0 clock.1 ∙ ap (λ (z : ℤ). Some z) sum

-- what is written for a moment is read as the moment that has so many milliseconds from 0000-01-01 on
moment_text-read : (moment read : ℤ) → milliseconds_of moment < 315569520000000 → read +ℤ pos 62167219200000 ≡ pos (milliseconds_of moment) → moment_of (moment_text moment) ≡ Some read
unfolding moment_text
moment_text-read moment read small e = text-read (milliseconds_of moment) read small e

-- that of the years 0 to 9999 is itself
pub moment_of-inside : (moment : ℤ) → FIRST_MOMENT ≤ℤ moment → moment ≤ℤ LAST_MOMENT → moment_of (moment_text moment) ≡ Some moment
unfolding milliseconds_of
moment_of-inside (pos n) low high =
    let most : n ≤ 253402300799999 = omega (arith, ints) in
    let same : milliseconds_of (pos n) ≡ 62167219200000 + n = omega arith in
    moment_text-read (pos n) (pos n) (omega arith) (omega (arith, ints, same))
moment_of-inside (negsuc n) low high =
    let most : suc n ≤ 62167219200000 = omega (arith, ints) in
    let same : milliseconds_of (negsuc n) + suc n ≡ 62167219200000 = omega arith in
    moment_text-read (negsuc n) (negsuc n) (omega arith) (omega (arith, ints, same))

-- an earlier one is the first of them
pub moment_of-before : (moment : ℤ) → moment <ℤ FIRST_MOMENT → moment_of (moment_text moment) ≡ Some FIRST_MOMENT
unfolding milliseconds_of
moment_of-before (pos n) early = absurd (omega (arith, ints))
moment_of-before (negsuc n) early =
    let least : 62167219200000 ≤ suc n = omega (arith, ints) in
    let none : milliseconds_of (negsuc n) ≡ 0 = omega arith in
    moment_text-read (negsuc n) FIRST_MOMENT (omega arith) (omega (arith, ints, none))

-- and a later one is the last
pub moment_of-after : (moment : ℤ) → LAST_MOMENT <ℤ moment → moment_of (moment_text moment) ≡ Some LAST_MOMENT
unfolding milliseconds_of
moment_of-after (pos n) late =
    let least : 253402300799999 < n = omega (arith, ints) in
    let most : milliseconds_of (pos n) ≡ 315569519999999 = omega arith in
    moment_text-read (pos n) LAST_MOMENT (omega arith) (omega (arith, ints, most))
moment_of-after (negsuc n) late = absurd (omega (arith, ints))
