-- A tag is spelled in one way.
use Rattle.std.proofs.Common.{◌≡◌, ℕ, ◌^◌, ◌<◌, ◌≤◌, Bool, true, false, ◌||◌, ◌⊎◌, inl, inr, cond, eqb, ltb, List, [], ◌∷◌, length, get_or, Option, Some, None, refl, sym, ◌∙◌, ap, arith, rules}
use Rattle.std.specs.Prelude.{decimal}
use Rattle.std.specs.List.{list_all, list_any}
use Rattle.std.specs.Char.{is_ascii_digit}
use Rattle.std.specs.Str.Parse.{digits_value}
use Rattle.std.proofs.lemmas.Bool.{ltb-false, eqb-false, and_parts, or_parts}
use Rattle.std.proofs.lemmas.Bool.Decides.{nat_tests}
use Rattle.std.proofs.lemmas.Str.Parse.{IsNumeralModel, numerals_by_value, digits_value_short}
use Rattle.std.proofs.lemmas.Fmt.{decimal-digits_value, digits_decimal, digits_value-decimal, length-decimal-le, decimal_nonempty, first_decimal, decimal_digit}
use Rattle.fix_fields.specs.Marks.{place_found}
use Rattle.fix_fields.specs.Forms.{numeral, tag_of}
use Rattle.fix_fields.specs.Fields.{is_end, is_equals}

-- the digits of the forms are std's numerals
pub numerals : IsNumeralModel (λ ds. list_all is_ascii_digit ds ≡ true) (digits_value 10)
numerals = numerals_by_value _ (search rules)

none_or : (b : Bool) (o : Option ℕ) (t : ℕ) → cond b None o ≡ Some t → (b ≡ false) × (o ≡ Some t)
none_or true o t h = absurd (cc)
none_or false o t h = (refl, h)

above_zero : (n : ℕ) → eqb n 0 ≡ false → 0 < n
above_zero n h = grind (arith, nat_tests)

-- what is read as a tag is the tag's spelling
pub tag_found : (bytes : List ℕ) (t : ℕ) → tag_of bytes ≡ Some t → (decimal t ≡ bytes) × (0 < t) × (t < 100000)
unfolding tag_of numeral
tag_found bytes t e =
    let f = none_or (eqb (length bytes) 0 || (ltb 5 (length bytes) || eqb (get_or bytes 0 0) 48)) _ t e in
    let a = or_parts (eqb (length bytes) 0) _ f.0 in
    let b = or_parts (ltb 5 (length bytes)) _ a.1 in
    let g = place_found (list_all is_ascii_digit bytes) (digits_value 10 bytes) t f.1 in
    let some : 0 < length bytes = above_zero _ a.0 in
    let few : length bytes ≤ 5 = ltb-false _ _ b.0 in
    let small : digits_value 10 bytes < 10 ^ 5 = digits_value_short numerals bytes 5 g.0 few in
    let same : decimal (digits_value 10 bytes) ≡ bytes = decimal-digits_value numerals bytes g.0 some (λ z. absurd (eqb-false _ _ b.1 z)) (omega arith) in
    let spellings : decimal t ≡ bytes = ap decimal (sym g.1) ∙ same in
    let positive : 0 < t = elim (eqb t 0) as (λ x. (eqb t 0 ≡ x) → 0 < t) [
      | true ↦ λ z. let zero : t ≡ 0 = grind (arith, nat_tests) in absurd (eqb-false (get_or bytes 0 0) 48 b.1 (ap (λ (xs : List ℕ). get_or xs 0 0) (sym spellings ∙ ap decimal zero ∙ decimal_digit 0 (omega arith))))
      | false ↦ λ z. above_zero t z
    ] refl in
    (spellings, positive, omega arith)

-- the spelling of a tag is read as that tag
pub tag_again : (t : ℕ) → 0 < t → t < 100000 → tag_of (decimal t) ≡ Some t
unfolding tag_of numeral
tag_again t low high =
    let some : 0 < length (decimal t) = decimal_nonempty t (omega arith) in
    let few : length (decimal t) ≤ 5 = length-decimal-le 5 t (omega arith) (omega arith) (omega arith) in
    let first : 48 < get_or (decimal t) 0 0 = first_decimal t low (omega arith) in
    let a : eqb (length (decimal t)) 0 ≡ false = grind (arith, nat_tests) in
    let b : ltb 5 (length (decimal t)) ≡ false = grind (arith, nat_tests) in
    let c : eqb (get_or (decimal t) 0 0) 48 ≡ false = grind (arith, nat_tests) in
    let d : list_all is_ascii_digit (decimal t) ≡ true = digits_decimal numerals t (omega arith) in
    let v : digits_value 10 (decimal t) ≡ t = digits_value-decimal numerals t (omega arith) in
    rw (a, b, c, d, v) refl

digit_apart : (x k : ℕ) → k < 48 ⊎ 57 < k → is_ascii_digit x ≡ true → eqb x k ≡ false
digit_apart x k far h = grind (arith, nat_tests)

pub no_mark : (k : ℕ) → k < 48 ⊎ 57 < k → (ds : List ℕ) → list_all is_ascii_digit ds ≡ true → list_any (λ x. eqb x k) ds ≡ false
no_mark k far [] h = refl
no_mark k far (x ∷ xs) h =
    let f = and_parts (is_ascii_digit x) (list_all is_ascii_digit xs) h in
    let here : eqb x k ≡ false = digit_apart x k far f.0 in
    rw here (no_mark k far xs f.1)

-- a tag's spelling has neither SOH nor `=`
pub tag_no_end : (t : ℕ) → t < 100000 → list_any is_end (decimal t) ≡ false
tag_no_end t high = no_mark 1 (inl (omega arith)) (decimal t) (digits_decimal numerals t (omega arith))

pub tag_no_equals : (t : ℕ) → t < 100000 → list_any is_equals (decimal t) ≡ false
tag_no_equals t high = no_mark 61 (inr (omega arith)) (decimal t) (digits_decimal numerals t (omega arith))
