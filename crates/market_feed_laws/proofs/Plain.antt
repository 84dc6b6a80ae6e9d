-- Texts without a blank and without an end of line.
use Rattle.std.proofs.Common.{◌≡◌, ℕ, ◌+◌, ◌-◌, ◌*◌, ◌/◌, ◌%◌, ◌≤◌, ◌<◌, ◌^◌, ◌==◌, ◌&&◌, nat_le, true, false, ℤ, List, [], ◌∷◌, ◌++◌, length, Option, Some, None, decimal, refl, arith, rules}
use Rattle.std.specs.List.{All, AllByRecursion, list_all, fold}
use Rattle.std.specs.Prelude.{slice_index, nat_lt}
use Rattle.std.proofs.lemmas.Bool.{and_parts}
use Rattle.std.proofs.lemmas.Bool.Decides.{nat_tests}
use Rattle.std.proofs.lemmas.Fmt.{digits_decimal}
use Rattle.std.proofs.lemmas.List.Elements.{All-cons, All-nil}
use Rattle.std.proofs.lemmas.Str.Parse.{IsNumeralModel, numerals_by_fold}
use Rattle.venue_words.specs.declared.limits.TheConstants.{MAX_NAME_BYTES}
use Rattle.venue_words.specs.ListLaws.{all_append}
use Rattle.fix_write.specs.Digits.{digit, two_digits, three_digits, four_digits}
use Rattle.fix_write.specs.Moments.{civil_of, date_text, clock_text, milliseconds_of, moment_text}
use Rattle.quote_intake.specs.Price.{is_digit}
use Rattle.quote_text.specs.Sides.{cents_text, side_text}
use Rattle.script_text.specs.Lines.{has_end}
use Rattle.script_text.specs.Words.{is_letter, is_name_byte, is_name}

abbrev pub IsPlain : ℕ → Type 0
IsPlain b = 33 ≤ b

abbrev pub ArePlain : List ℕ → Type 0
ArePlain text = AllByRecursion IsPlain text

pub plain_append : (xs ys : List ℕ) → ArePlain xs → ArePlain ys → ArePlain (xs ++ ys)
plain_append xs ys h k = all_append IsPlain xs ys h k

-- ---- moments

plain_two : (n : ℕ) → ArePlain (two_digits n)
unfolding two_digits
plain_two n = (omega arith, (omega arith, tt))

plain_three : (n : ℕ) → ArePlain (three_digits n)
unfolding three_digits
plain_three n = (omega arith, (omega arith, (omega arith, tt)))

plain_four : (n : ℕ) → ArePlain (four_digits n)
unfolding four_digits
plain_four n = (omega arith, (omega arith, (omega arith, (omega arith, tt))))

plain_one : (b : ℕ) → 33 ≤ b → ArePlain (b ∷ [])
plain_one b h = (h, tt)

plain_date : (day : ℕ) → ArePlain (date_text day)
unfolding date_text
plain_date day =
    let d = civil_of day in
    plain_append (four_digits d.year ++ two_digits d.month) (two_digits d.day)
    (plain_append (four_digits d.year) (two_digits d.month) (plain_four d.year) (plain_two d.month)) (plain_two d.day)

-- one more part behind a text
plain_more : (text part : List ℕ) (b : ℕ) → 33 ≤ b → ArePlain text → ArePlain part → ArePlain ((text ++ b ∷ []) ++ part)
plain_more text part b h p q = plain_append (text ++ b ∷ []) part (plain_append text (b ∷ []) p (plain_one b h)) q

plain_clock : (ms : ℕ) → ArePlain (clock_text ms)
unfolding clock_text
plain_clock ms =
    let second = ms / 1000 in
    let hours = two_digits (second / 3600) in
    let minutes = two_digits (second / 60 % 60) in
    let seconds = two_digits (second % 60) in
    plain_more ((hours ++ 58 ∷ []) ++ minutes ++ 58 ∷ [] ++ seconds) (three_digits (ms % 1000)) 46 (omega arith)
    (plain_more ((hours ++ 58 ∷ []) ++ minutes) seconds 58 (omega arith)
    (plain_more hours minutes 58 (omega arith) (plain_two (second / 3600)) (plain_two (second / 60 % 60))) (plain_two (second % 60)))
    (plain_three (ms % 1000))

pub plain_moment : (moment : ℤ) → ArePlain (moment_text moment)
unfolding moment_text
plain_moment moment =
    let n = milliseconds_of moment in
    plain_more (date_text (n / 86400000)) (clock_text (n % 86400000)) 45 (omega arith) (plain_date (n / 86400000)) (plain_clock (n % 86400000))

-- ---- sides

digit_plain : (b : ℕ) → is_digit b ≡ true → IsPlain b
digit_plain b e = grind (arith, nat_tests)

digits_plain : (text : List ℕ) → list_all is_digit text ≡ true → ArePlain text
digits_plain [] e = tt
digits_plain (b ∷ text) e =
    let p = and_parts _ _ e in
    (digit_plain b p.0, digits_plain text p.1)

value_from : ℕ → List ℕ → ℕ
value_from start digits = fold (λ number digit. number * 10 + (digit - 48)) start digits

own : IsNumeralModel (λ ds. list_all is_digit ds ≡ true) (value_from 0)
unfolding value_from
own = numerals_by_fold _ (search rules) value_from (search rules)

plain_decimal : (n : ℕ) → n < 2 ^ 64 → ArePlain (decimal n)
plain_decimal n small = digits_plain (decimal n) (digits_decimal own n small)

pub plain_side : (side : Option ℕ) → ((cents : ℕ) → side ≡ Some cents → cents < 2 ^ 64) → ArePlain (side_text side)
unfolding side_text cents_text
plain_side None h = plain_one 45 (omega arith)
plain_side (Some cents) h =
    let small = h cents refl in
    plain_append (decimal (cents / 100)) _ (plain_decimal (cents / 100) (omega arith))
    (omega arith, (omega arith, (omega arith, tt)))

-- ---- names

byte_plain : (b : ℕ) → is_name_byte b ≡ true → IsPlain b
unfolding is_name_byte is_letter
byte_plain b e = grind (arith, nat_tests)

bytes_plain : (text : List ℕ) → list_all is_name_byte text ≡ true → ArePlain text
bytes_plain [] e = tt
bytes_plain (b ∷ text) e =
    let p = and_parts _ _ e in
    (byte_plain b p.0, bytes_plain text p.1)

pub plain_name : (name : List ℕ) → is_name name ≡ true → ArePlain name
unfolding is_name
plain_name name e =
    let rest = list_all is_name_byte name in
    let letter = is_letter (slice_index name 0) in
    let short = nat_le (length name) MAX_NAME_BYTES in
    let a = and_parts (nat_lt 0 (length name)) (short && (letter && rest)) e in
    let b = and_parts short (letter && rest) a.1 in
    bytes_plain name (and_parts letter rest b.1).1

pub name_length : (name : List ℕ) → is_name name ≡ true → length name ≤ MAX_NAME_BYTES
unfolding is_name
name_length name e = grind (arith, nat_tests)

-- ---- what is plain has no blank and no end of line

pub no_blank : (text : List ℕ) → ArePlain text → All (λ b. (b == 32) ≡ false) text
no_blank [] p = All-nil (λ k. (k == 32) ≡ false)
no_blank (b ∷ text) p =
    let h : 33 ≤ b = p.0 in
    let e : (b == 32) ≡ false = grind (arith, nat_tests) in
    All-cons (λ k. (k == 32) ≡ false) b text e (no_blank text p.1)

pub no_end : (text : List ℕ) → ArePlain text → has_end text ≡ false
no_end [] p = refl
no_end (b ∷ text) p =
    let h : 33 ≤ b = p.0 in
    let e : (b == 10) ≡ false = grind (arith, nat_tests) in
    rw e (no_end text p.1)
