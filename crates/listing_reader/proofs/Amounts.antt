-- An amount that is written is read as the same.
use Rattle.std.proofs.Common.{◌≡◌, ℕ, zero, suc, ◌+◌, ◌-◌, ◌*◌, ◌/◌, ◌%◌, ◌^◌, ◌<◌, ◌≤◌, true, false, cond, eqb, ltb, List, [], ◌∷◌, ◌++◌, length, get_or, Some, ℤ, pos, negsuc, refl, ◌∙◌, ap, inl, arith, length-append, append-nil}
use Rattle.std.specs.Prelude.{decimal}
use Rattle.std.specs.List.{list_all, list_any, before_first, after_first}
use Rattle.std.specs.Char.{is_ascii_digit, digit_value}
use Rattle.std.specs.Str.Parse.{digits_value}
use Rattle.std.proofs.Math.Nat.{pow-suc}
use Rattle.std.proofs.lemmas.Bool.{and_parts, and_from, ltb-true, eqb-true}
use Rattle.std.proofs.lemmas.Bool.Decides.{nat_tests}
use Rattle.std.proofs.lemmas.Fmt.{digits_decimal, digits_value-decimal, length-decimal-le, decimal_nonempty}
use Rattle.std.proofs.lemmas.Int.Digits.{digits_value_push}
use Rattle.std.proofs.lemmas.List.Folds.{list_all-append}
use Rattle.fix_fields.specs.Forms.{numeral, is_point, unsigned_amount, amount_of}
use Rattle.fix_fields.specs.Tags.{numerals, no_mark}
use Rattle.fix_write.specs.Digits.{digit}
use Rattle.exec_reports.specs.Texts.{padded, trimmed, magnitude_text, amount_text}
use Rattle.listing_reader.specs.declared.fitting.TheConstants.{AMOUNT_END}
use Rattle.listing_reader.specs.Fitting.{fits_amount, fits_code, fits_text}
use Rattle.listing_reader.proofs.Marks.{before_mark, after_mark, before_none, after_none}

is_digit : (n : ℕ) → is_ascii_digit (digit n) ≡ true
is_digit n = grind (arith, nat_tests)

worth : (n : ℕ) → digit_value (digit n) ≡ n % 10
worth n = grind (arith, nat_tests)

-- digits that write a number in so many places, of which those at the end may be left out
pub record Writes (text : List ℕ) (places n : ℕ) : Type 0 where
  pub digits : list_all is_ascii_digit text ≡ true
  pub few : length text ≤ places
  pub value : digits_value 10 text * 10 ^ (places - length text) ≡ n

pub record WritesAll (text : List ℕ) (places n : ℕ) : Type 0 where
  pub digits : list_all is_ascii_digit text ≡ true
  pub long : length text ≡ places
  pub value : digits_value 10 text ≡ n

padded_writes : (places n : ℕ) → n < 10 ^ places → WritesAll (padded places n) places n
padded_writes zero n h = record { digits = refl; long = refl; value = omega arith }
padded_writes (suc p) n h =
    let small : n / 10 < 10 ^ p = omega (arith, pow-suc 10 p) in
    let more = padded_writes p (n / 10) small in
    let front = padded p (n / 10) in
    let last = is_digit n in
    let all : list_all is_ascii_digit (front ++ digit n ∷ []) ≡ true = list_all-append is_ascii_digit front (digit n ∷ []) ∙ (rw (more.digits, last) refl) in
    record {
      digits = all;
      long = omega (arith, length-append front (digit n ∷ []), more.long);
      value = digits_value_push 10 front (digit n) ∙ omega (arith, more.value, worth n);
    }

whole_writes : (text : List ℕ) (places n : ℕ) → WritesAll text places n → Writes text places n
whole_writes text places n h =
    let none : places - length text ≡ 0 = omega (arith, h.long) in
    record {
      digits = h.digits;
      few = omega (arith, h.long);
      value = rw none (omega (arith, h.value));
    }

one_more : (text : List ℕ) (places n : ℕ) → n % 10 ≡ 0 → Writes text places (n / 10) → Writes text (suc places) n
one_more text places n e h =
    let gap : suc places - length text ≡ suc (places - length text) = omega (arith, h.few) in
    let scale = 10 ^ (places - length text) in
    let times : digits_value 10 text * (scale * 10) ≡ n = omega (arith, h.value) in
    record {
      digits = h.digits;
      few = omega (arith, h.few);
      value = rw (gap, pow-suc) times;
    }

trimmed_writes : (places n : ℕ) → n < 10 ^ places → Writes (trimmed places n) places n
trimmed_writes zero n h = record { digits = refl; few = omega arith; value = omega arith }
trimmed_writes (suc p) n h =
    elim (eqb (n % 10) 0) as (λ b. (eqb (n % 10) 0 ≡ b) → Writes (cond b (trimmed p (n / 10)) (padded (suc p) n)) (suc p) n) [
      | true ↦ λ e. one_more (trimmed p (n / 10)) p n (eqb-true _ _ e) (trimmed_writes p (n / 10) (omega (arith, pow-suc 10 p)))
      | false ↦ λ e. whole_writes (padded (suc p) n) (suc p) n (padded_writes (suc p) n h)
    ] refl

numeral_digits : (text : List ℕ) → list_all is_ascii_digit text ≡ true → numeral text ≡ Some (digits_value 10 text)
unfolding numeral
numeral_digits text all = rw all refl

whole_amount : (whole : List ℕ) → 0 < length whole → length whole ≤ 18 → list_all is_ascii_digit whole ≡ true
    → unsigned_amount whole ≡ Some (digits_value 10 whole * 10 ^ 8)
unfolding unsigned_amount
whole_amount whole some few all =
    let none : list_any is_point whole ≡ false = no_mark 46 (inl (omega arith)) whole all in
    let front : before_first is_point whole ≡ whole = before_none is_point whole none in
    let behind : after_first is_point whole ≡ [] = after_none is_point whole none in
    let a : ltb 18 (length whole) ≡ false = grind (arith, nat_tests) in
    let b : eqb (length whole + 0) 0 ≡ false = grind (arith, nat_tests) in
    let n = numeral_digits whole all in
    let z : numeral [] ≡ Some 0 = numeral_digits [] refl in
    let sum : digits_value 10 whole * 10 ^ 8 + 0 * 10 ^ 8 ≡ digits_value 10 whole * 10 ^ 8 = omega arith in
    rw (front, behind, a, b, n, z, sum) refl

parts_amount : (whole fraction : List ℕ) → 0 < length whole → length whole ≤ 18 → list_all is_ascii_digit whole ≡ true
    → length fraction ≤ 8 → list_all is_ascii_digit fraction ≡ true
    → unsigned_amount (whole ++ 46 ∷ fraction) ≡ Some (digits_value 10 whole * 10 ^ 8 + digits_value 10 fraction * 10 ^ (8 - length fraction))
unfolding unsigned_amount
parts_amount whole fraction some few all short more =
    let none : list_any is_point whole ≡ false = no_mark 46 (inl (omega arith)) whole all in
    let front : before_first is_point (whole ++ 46 ∷ fraction) ≡ whole = before_mark is_point whole 46 fraction none refl in
    let behind : after_first is_point (whole ++ 46 ∷ fraction) ≡ fraction = after_mark is_point whole 46 fraction none refl in
    let a : ltb 18 (length whole) ≡ false = grind (arith, nat_tests) in
    let b : ltb 8 (length fraction) ≡ false = grind (arith, nat_tests) in
    let c : eqb (length whole + length fraction) 0 ≡ false = grind (arith, nat_tests) in
    rw (front, behind, a, b, c, numeral_digits whole all, numeral_digits fraction more) refl

magnitude_read : (units : ℕ) → units < AMOUNT_END → unsigned_amount (magnitude_text units) ≡ Some units
unfolding magnitude_text
magnitude_read units small =
    let w = units / 10 ^ 8 in
    let f = units % 10 ^ 8 in
    let room : w < 2 ^ 64 = omega arith in
    let some = decimal_nonempty w room in
    let few = length-decimal-le 18 w (omega arith) (omega arith) room in
    let all : list_all is_ascii_digit (decimal w) ≡ true = digits_decimal numerals w room in
    let worth : digits_value 10 (decimal w) ≡ w = digits_value-decimal numerals w room in
    elim (eqb f 0) as (λ b. (eqb f 0 ≡ b) → unsigned_amount (decimal w ++ cond b [] (46 ∷ trimmed 8 f)) ≡ Some units) [
      | true ↦ λ e. ap unsigned_amount (append-nil (decimal w)) ∙ whole_amount (decimal w) some few all ∙ ap (λ (n : ℕ). Some n) (omega (arith, eqb-true f 0 e))
      | false ↦ λ e.
          let t = trimmed_writes 8 f (omega arith) in
          parts_amount (decimal w) (trimmed 8 f) some few all t.few t.digits ∙ ap (λ (n : ℕ). Some n) (omega (arith, t.value))
    ] refl

first_digit : (units : ℕ) → units < AMOUNT_END → eqb (get_or (magnitude_text units) 0 0) 45 ≡ false
unfolding magnitude_text
first_digit units small =
    let w = units / 10 ^ 8 in
    let room : w < 2 ^ 64 = omega arith in
    starts (decimal w) _ (decimal_nonempty w room) (digits_decimal numerals w room)
  where
    starts : (ds more : List ℕ) → 0 < length ds → list_all is_ascii_digit ds ≡ true → eqb (get_or (ds ++ more) 0 0) 45 ≡ false
    starts [] more some all = absurd (omega arith)
    starts (d ∷ ds) more some all = let h = and_parts (is_ascii_digit d) (list_all is_ascii_digit ds) all in let d1 : is_ascii_digit d ≡ true = h.0 in grind (arith, nat_tests)

pub amount_read : (amount : ℤ) → fits_amount amount ≡ true → amount_of (amount_text amount) ≡ Some amount
unfolding amount_of amount_text
amount_read (pos units) h =
    let small : units < AMOUNT_END = ltb-true _ _ h in
    let sign = first_digit units small in
    rw (sign, magnitude_read units small) refl
amount_read (negsuc units) h =
    let small : suc units < AMOUNT_END = ltb-true _ _ h in
    rw (magnitude_read (suc units) small) refl

-- ---- how long amounts are, and of which bytes

digit_fits : (b : ℕ) → is_ascii_digit b ≡ true → fits_code b ≡ true
digit_fits b h = grind (arith, nat_tests)

pub digits_fit : (text : List ℕ) → list_all is_ascii_digit text ≡ true → fits_text text ≡ true
digits_fit [] h = refl
digits_fit (b ∷ text) h =
    let parts = and_parts (is_ascii_digit b) (list_all is_ascii_digit text) h in
    and_from (fits_code b) (fits_text text) (digit_fits b parts.0) (digits_fit text parts.1)

pub both_fit : (a b : List ℕ) → fits_text a ≡ true → fits_text b ≡ true → fits_text (a ++ b) ≡ true
both_fit a b h k = list_all-append fits_code a b ∙ and_from (fits_text a) (fits_text b) h k

-- a value that a line can hold: it is short, and no byte of it ends the field
pub record IsValue (text : List ℕ) : Type 0 where
  pub fits : fits_text text ≡ true
  pub short : length text ≤ 64

magnitude_value : (units : ℕ) → units < AMOUNT_END → (fits_text (magnitude_text units) ≡ true) × (length (magnitude_text units) ≤ 27)
unfolding magnitude_text
magnitude_value units small =
    let w = units / 10 ^ 8 in
    let f = units % 10 ^ 8 in
    let room : w < 2 ^ 64 = omega arith in
    let few = length-decimal-le 18 w (omega arith) (omega arith) room in
    let all : list_all is_ascii_digit (decimal w) ≡ true = digits_decimal numerals w room in
    let good : fits_text (decimal w) ≡ true = digits_fit (decimal w) all in
    elim (eqb f 0) as (λ b. (fits_text (decimal w ++ cond b [] (46 ∷ trimmed 8 f)) ≡ true) × (length (decimal w ++ cond b [] (46 ∷ trimmed 8 f)) ≤ 27)) [
      | true ↦ (both_fit (decimal w) [] good refl, omega (arith, few, length-append (decimal w) []))
      | false ↦
          let t = trimmed_writes 8 f (omega arith) in
          (both_fit (decimal w) (46 ∷ trimmed 8 f) good (digits_fit (trimmed 8 f) t.digits), omega (arith, few, t.few, length-append (decimal w) (46 ∷ trimmed 8 f)))
    ]

pub amount_value : (amount : ℤ) → fits_amount amount ≡ true → IsValue (amount_text amount)
unfolding amount_text
amount_value (pos units) h =
    let m = magnitude_value units (ltb-true _ _ h) in
    record { fits = m.0; short = omega (arith, m.1) }
amount_value (negsuc units) h =
    let m = magnitude_value (suc units) (ltb-true _ _ h) in
    record { fits = m.0; short = omega (arith, m.1) }
