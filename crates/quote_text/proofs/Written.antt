-- A side of a quote that is written is read as the same.
use Rattle.std.proofs.Common.{◌≡◌, ℕ, zero, suc, ◌+◌, ◌-◌, ◌*◌, ◌/◌, ◌%◌, ◌^◌, ◌<◌, ◌≤◌, ◌==◌, ◌||◌, not, true, false, nat_le, List, [], ◌∷◌, ◌++◌, length, take, drop, get_or, Option, Some, None, decimal, fold, refl, sym, ◌∙◌, ap, rules, arith, length-append}
use Rattle.std.specs.List.{list_all}
use Rattle.std.specs.Str.{bytes_eq}
use Rattle.std.proofs.lemmas.Bool.{and_from, le-leb}
use Rattle.std.proofs.lemmas.Bool.Decides.{nat_tests}
use Rattle.std.proofs.lemmas.Fmt.{digits_decimal, digits_value-decimal, length-decimal-le, decimal_nonempty, decimal_digit, first_decimal}
use Rattle.std.proofs.lemmas.List.{take_at, drop_at, get_or_at, drop-drop}
use Rattle.std.proofs.lemmas.Str.Parse.{IsNumeralModel, numerals_by_fold}
use Rattle.venue_words.specs.declared.limits.TheConstants.{MAX_CENTS}
use Rattle.venue_words.specs.Conditions.{fits_quote}
use Rattle.quote_intake.specs.Price.{is_digit, number_of, digits_of, has_form, in_range, cents_of, price_of}
use Rattle.quote_text.specs.Sides.{cents_text, side_text}

value_from : ℕ → List ℕ → ℕ
value_from start digits = fold (λ number digit. number * 10 + (digit - 48)) start digits

own : IsNumeralModel (λ ds. list_all is_digit ds ≡ true) (value_from 0)
unfolding value_from
own = numerals_by_fold _ (search rules) value_from (search rules)

digits_of-decimal : (n : ℕ) → n < 2 ^ 64 → digits_of (decimal n) ≡ Some n
unfolding digits_of value_from
digits_of-decimal n small =
    let all : list_all is_digit (decimal n) ≡ true = digits_decimal own n small in
    let value : number_of (decimal n) ≡ n = digits_value-decimal own n small in
    rw (all, value) refl

digits_of-two : (a b : ℕ) → a < 10 → b < 10 → digits_of ((48 + a) ∷ (48 + b) ∷ []) ≡ Some (a * 10 + b)
unfolding digits_of
digits_of-two a b h k =
    let first : is_digit (48 + a) ≡ true = and_from _ _ (le-leb 48 (48 + a) (omega arith)) (le-leb (48 + a) 57 (omega arith)) in
    let second : is_digit (48 + b) ≡ true = and_from _ _ (le-leb 48 (48 + b) (omega arith)) (le-leb (48 + b) 57 (omega arith)) in
    let value : (0 * 10 + (48 + a - 48)) * 10 + (48 + b - 48) ≡ a * 10 + b = omega arith in
    rw (first, second) (ap (λ (n : ℕ). Some n) value)

-- a whole part, a point and two digits
cents_of-parts : (ds : List ℕ) (x y whole part : ℕ) → 0 < length ds → length ds ≤ 5 → (get_or ds 0 0 ≡ 48 → length ds ≡ 1) → digits_of ds ≡ Some whole → digits_of (x ∷ y ∷ []) ≡ Some part
    → cents_of (ds ++ 46 ∷ x ∷ y ∷ []) ≡ in_range (whole * 100 + part)
unfolding cents_of has_form
cents_of-parts ds x y whole part some few first w p =
    let text = ds ++ 46 ∷ x ∷ y ∷ [] in
    let long : length text ≡ length ds + 3 = length-append ds (46 ∷ x ∷ y ∷ []) in
    let place : length text - 3 ≡ length ds = omega (arith, long) in
    let least : nat_le 4 (length text) ≡ true = le-leb _ _ (omega (arith, long)) in
    let most : nat_le (length text) 8 ≡ true = le-leb _ _ (omega (arith, long)) in
    let point : get_or text (length ds) 0 ≡ 46 = get_or_at ds 46 (x ∷ y ∷ []) 0 (length ds) refl in
    let start : (length text == 4) || not (get_or text 0 0 == 48) ≡ true = starts ds x y some first in
    let front : take (length ds) text ≡ ds = take_at ds (46 ∷ x ∷ y ∷ []) (length ds) refl in
    let behind : drop (length ds + 1) text ≡ x ∷ y ∷ [] = sym (drop-drop 1 (length ds) text) ∙ ap (drop 1) (drop_at ds (46 ∷ x ∷ y ∷ []) (length ds) refl) in
    rw (place, least, most, point, start, front, behind, w, p) refl
  where
    starts : (ds : List ℕ) (x y : ℕ) → 0 < length ds → (get_or ds 0 0 ≡ 48 → length ds ≡ 1) → (length (ds ++ 46 ∷ x ∷ y ∷ []) == 4) || not (get_or (ds ++ 46 ∷ x ∷ y ∷ []) 0 0 == 48) ≡ true
    starts [] x y some first = absurd (omega arith)
    starts (d ∷ ds) x y some first = grind (arith, nat_tests, length-append {A = ℕ})

not_dash : (ds : List ℕ) (x y : ℕ) → 0 < length ds → bytes_eq (ds ++ 46 ∷ x ∷ y ∷ []) (45 ∷ []) ≡ false
not_dash [] x y some = absurd (omega arith)
not_dash (d ∷ []) x y some = grind (arith, nat_tests)
not_dash (d ∷ e ∷ ds) x y some = grind (arith, nat_tests)

first_digit : (n : ℕ) → n < 2 ^ 64 → get_or (decimal n) 0 0 ≡ 48 → length (decimal n) ≡ 1
first_digit n small e =
    elim n as (λ (m : ℕ). m < 2 ^ 64 → get_or (decimal m) 0 0 ≡ 48 → length (decimal m) ≡ 1) [
      | zero ↦ λ _ _. ap length (decimal_digit 0 (omega arith))
      | suc k ↦ λ small e. absurd (omega (arith, first_decimal (suc k) (omega arith) small))
    ] small e

in_range-within : (cents : ℕ) → fits_quote (Some cents) ≡ true → in_range cents ≡ Some cents
unfolding in_range
in_range-within cents e = rw e refl

cents_of-text : (cents : ℕ) → cents ≤ MAX_CENTS → cents_of (cents_text cents) ≡ in_range cents
unfolding cents_text
cents_of-text cents most =
    let whole = cents / 100 in
    let small : whole < 2 ^ 64 = omega arith in
    let sum : whole * 100 + (cents / 10 % 10 * 10 + cents % 10) ≡ cents = omega arith in
    cents_of-parts (decimal whole) _ _ whole (cents / 10 % 10 * 10 + cents % 10)
    (decimal_nonempty whole small) (length-decimal-le 5 whole (omega arith) (omega arith) small) (first_digit whole small)
    (digits_of-decimal whole small) (digits_of-two (cents / 10 % 10) (cents % 10) (omega arith) (omega arith))
    ∙ ap in_range sum

pub written_side : (side : Option ℕ) → fits_quote side ≡ true → price_of (side_text side) ≡ Some side
unfolding side_text price_of cents_text
written_side None e = refl
written_side (Some cents) e =
    let most : cents ≤ MAX_CENTS = grind (arith, nat_tests, e) in
    let dash : bytes_eq (cents_text cents) (45 ∷ []) ≡ false = not_dash (decimal (cents / 100)) _ _ (decimal_nonempty (cents / 100) (omega arith)) in
    let read : cents_of (cents_text cents) ≡ Some cents = cents_of-text cents most ∙ in_range-within cents e in
    rw (dash, read) refl
