-- The words of a line that is written, and what they tell.
use Rattle.std.proofs.Common.{◌≡◌, ℕ, zero, suc, ◌+◌, ◌/◌, ◌%◌, ◌^◌, ◌<◌, ◌≤◌, not, Bool, true, false, eqb, ltb, List, [], ◌∷◌, ◌++◌, length, Option, Some, None, ℤ, ◌≤ℤ◌, refl, ◌∙◌, inl, arith}
use Rattle.std.specs.Prelude.{decimal, codes}
use Rattle.std.specs.Int.Signed.{le_z, le_z_yes}
use Rattle.std.specs.List.{AllByRecursion, IsDistinct, list_all, list_any, position_or_len}
use Rattle.std.specs.Char.{is_ascii_digit}
use Rattle.std.specs.Str.{bytes_eq}
use Rattle.std.specs.Str.Parse.{digits_value}
use Rattle.std.proofs.lemmas.Bool.{and_parts, ltb-true, lt-ltb}
use Rattle.std.proofs.lemmas.Bool.Decides.{nat_tests}
use Rattle.std.proofs.lemmas.Float.{T_from_true}
use Rattle.std.proofs.lemmas.Fmt.{digits_decimal, digits_value-decimal, length-decimal-le, decimal_nonempty}
use Rattle.std.proofs.lemmas.List.Folds.{list_any-append}
use lib.Pointwise.{bytes_decides}
use Rattle.venue_words.specs.Conditions.{AreNames, fits_quote}
use Rattle.fix_fields.specs.declared.moments.TheConstants.{FIRST_MOMENT, LAST_MOMENT}
use Rattle.fix_fields.specs.Forms.{numeral, number_of}
use Rattle.fix_fields.specs.Tags.{numerals, no_mark}
use Rattle.fix_frames.specs.MomentLaws.{moment_of-inside}
use Rattle.fix_write.specs.Digits.{digit, two_digits, three_digits, four_digits}
use Rattle.fix_write.specs.Moments.{date_text, clock_text, milliseconds_of, moment_text}
use Rattle.quote_text.specs.Sides.{cents_text, side_text}
use Rattle.quote_text.proofs.Written.{written_side}
use Rattle.listing.specs.Commands.{name_at}
use Rattle.listing_reader.specs.declared.fitting.TheConstants.{NUMBER_END}
use Rattle.listing_reader.specs.Fitting.{is_space, are_words, fits_number, fits_moment}
use Rattle.listing_reader.specs.Told.{first_word, behind_word, place_in, told_number, told_moment, told_side}
use Rattle.listing_reader.proofs.Amounts.{IsValue, digits_fit}
use Rattle.listing_reader.proofs.Marks.{before_mark, after_mark}

-- ---- words

-- a text without a space
pub record IsWord (text : List ℕ) : Type 0 where
  pub clear : list_any is_space text ≡ false

pub first_written : (w rest : List ℕ) → IsWord w → first_word (w ++ 32 ∷ rest) ≡ w
first_written w rest h = before_mark is_space w 32 rest h.clear refl

pub behind_written : (w rest : List ℕ) → IsWord w → behind_word (w ++ 32 ∷ rest) ≡ rest
behind_written w rest h = after_mark is_space w 32 rest h.clear refl

-- ---- names

not_false : (b : Bool) → not b ≡ true → b ≡ false
not_false true h = cc
not_false false h = refl

pub name_word : (names : List (List ℕ)) (place : ℕ) → are_words names ≡ true → IsWord (name_at names place)
name_word [] place h = record { clear = refl }
name_word (name ∷ names) zero h =
    record { clear = not_false _ (and_parts (not (list_any is_space name)) (are_words names) h).0 }
name_word (name ∷ names) (suc place) h =
    name_word names place (and_parts (not (list_any is_space name)) (are_words names) h).1

same_name : (name : List ℕ) → bytes_eq name name ≡ true
same_name name = (bytes_decides name name).1 refl

all_at : (P : List ℕ → Type 0) (names : List (List ℕ)) (place : ℕ) → AllByRecursion P names → place < length names → P (name_at names place)
all_at P [] place h l = absurd (omega arith)
all_at P (name ∷ names) zero h l = h.0
all_at P (name ∷ names) (suc place) h l = all_at P names place h.1 (omega arith)

first_at : (names : List (List ℕ)) (place : ℕ) → IsDistinct bytes_eq names → place < length names
    → position_or_len (λ other. bytes_eq other (name_at names place)) names ≡ place
unfolding IsDistinct
first_at [] place h l = absurd (omega arith)
first_at (name ∷ names) zero h l = rw (same_name name) refl
first_at (name ∷ names) (suc place) h l =
    let apart : bytes_eq name (name_at names place) ≡ false = all_at (λ other. bytes_eq name other ≡ false) names place h.0 (omega arith) in
    let more = first_at names place h.1 (omega arith) in
    rw apart (omega (arith, more))

-- the place of a name that is written
pub place_written : (names : List (List ℕ)) (place : ℕ) → AreNames names → place < length names → place_in names (name_at names place) ≡ place
place_written names place h l =
    let at = first_at names place h.distinct l in
    let inside : ltb place (length names) ≡ true = lt-ltb _ _ l in
    rw (at, inside) refl

-- ---- numbers

pub number_digits : (n : ℕ) → n < NUMBER_END → list_all is_ascii_digit (decimal n) ≡ true
number_digits n small = digits_decimal numerals n (omega arith)

pub number_word : (n : ℕ) → fits_number n ≡ true → IsWord (decimal n)
number_word n h = record { clear = no_mark 32 (inl (omega arith)) (decimal n) (number_digits n (ltb-true _ _ h)) }

pub number_read : (n : ℕ) → fits_number n ≡ true → number_of (decimal n) ≡ Some n
unfolding number_of numeral
number_read n h =
    let small : n < NUMBER_END = ltb-true _ _ h in
    let room : n < 2 ^ 64 = omega arith in
    let some : 0 < length (decimal n) = decimal_nonempty n room in
    let few : length (decimal n) ≤ 9 = length-decimal-le 9 n (omega arith) (omega arith) room in
    let a : eqb (length (decimal n)) 0 ≡ false = grind (arith, nat_tests) in
    let b : ltb 9 (length (decimal n)) ≡ false = grind (arith, nat_tests) in
    let d = number_digits n small in
    let v : digits_value 10 (decimal n) ≡ n = digits_value-decimal numerals n room in
    rw (a, b, d, v) refl

pub number_written : (n : ℕ) → fits_number n ≡ true → told_number (decimal n) ≡ n
number_written n h = rw (number_read n h) refl

pub number_value : (n : ℕ) → fits_number n ≡ true → IsValue (decimal n)
number_value n h =
    let small : n < NUMBER_END = ltb-true _ _ h in
    let room : n < 2 ^ 64 = omega arith in
    let few : length (decimal n) ≤ 9 = length-decimal-le 9 n (omega arith) (omega arith) room in
    record { fits = digits_fit (decimal n) (number_digits n small); short = omega arith }

-- ---- moments

digit_clear : (n : ℕ) → eqb (digit n) 32 ≡ false
digit_clear n = grind (arith, nat_tests)

date_clear : (day : ℕ) → list_any is_space (date_text day) ≡ false
unfolding date_text two_digits four_digits
date_clear day = simp digit_clear

clock_clear : (millisecond : ℕ) → list_any is_space (clock_text millisecond) ≡ false
unfolding clock_text two_digits three_digits
clock_clear millisecond = simp digit_clear

pub moment_word : (moment : ℤ) → IsWord (moment_text moment)
unfolding moment_text
moment_word moment =
    let day = milliseconds_of moment / 86400000 in
    let rest = milliseconds_of moment % 86400000 in
    record {
      clear =
          list_any-append is_space (date_text day ++ codes "-") (clock_text rest)
          ∙ (rw (list_any-append is_space (date_text day) (codes "-"), date_clear day, clock_clear rest) refl);
    }

pub moment_written : (moment : ℤ) → fits_moment moment ≡ true → told_moment (moment_text moment) ≡ moment
moment_written moment h =
    let parts = and_parts (le_z FIRST_MOMENT moment) (le_z moment LAST_MOMENT) h in
    let low : FIRST_MOMENT ≤ℤ moment = le_z_yes (T_from_true (le_z FIRST_MOMENT moment) parts.0) in
    let high : moment ≤ℤ LAST_MOMENT = le_z_yes (T_from_true (le_z moment LAST_MOMENT) parts.1) in
    rw (moment_of-inside moment low high) refl

-- ---- sides of quotes

pub side_word : (side : Option ℕ) → fits_quote side ≡ true → IsWord (side_text side)
unfolding side_text cents_text
side_word None h = record { clear = refl }
side_word (Some cents) h =
    let most : cents < 2 ^ 64 = grind (arith, nat_tests, h) in
    let whole : list_any is_space (decimal (cents / 100)) ≡ false = no_mark 32 (inl (omega arith)) (decimal (cents / 100)) (digits_decimal numerals (cents / 100) (omega arith)) in
    let a : eqb (48 + cents / 10 % 10) 32 ≡ false = grind (arith, nat_tests) in
    let b : eqb (48 + cents % 10) 32 ≡ false = grind (arith, nat_tests) in
    record { clear = list_any-append is_space (decimal (cents / 100)) _ ∙ (rw (whole, a, b) refl) }

pub side_written : (side : Option ℕ) → fits_quote side ≡ true → told_side (side_text side) ≡ side
side_written side h = rw (written_side side h) refl
