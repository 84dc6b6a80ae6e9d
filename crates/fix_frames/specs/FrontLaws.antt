-- Where the content of a frame begins.
use Rattle.std.proofs.Common.{◌≡◌, ℕ, ◌+◌, false, eqb, List, [], ◌∷◌, ◌++◌, length, drop, Some, inl, refl, sym, ◌∙◌, ap, arith, append_assoc, length-append}
use Rattle.std.specs.Char.{is_ascii_digit}
use Rattle.std.specs.List.{list_all, list_any}
use Rattle.std.specs.Str.Parse.{digits_value}
use Rattle.std.proofs.lemmas.Bool.{or_parts}
use Rattle.std.proofs.lemmas.List.{drop_at}
use Rattle.fix_fields.specs.Content.{IsFront, behind_first_end}
use Rattle.fix_fields.specs.Fields.{is_end}
use Rattle.fix_fields.specs.Forms.{numeral}
use Rattle.fix_fields.specs.Marks.{place_found}
use Rattle.fix_fields.specs.Tags.{no_mark}
use Rattle.fix_frames.specs.Frames.{header}
use Rattle.fix_frames.specs.FrameLaws.{length-header}

-- what stands behind the first end, where none stands before it
behind_first : (bytes rest : List ℕ) → list_any is_end bytes ≡ false → behind_first_end (bytes ++ 1 ∷ rest) ≡ rest
unfolding behind_first_end
behind_first [] rest none = refl
behind_first (b ∷ bs) rest none =
    let parts = or_parts (is_end b) (list_any is_end bs) none in
    let here : eqb b 1 ≡ false = parts.0 in
    rw here (behind_first bs rest parts.1)

-- what stands behind BeginString and BodyLength
pub behind_header : (digits_of rest : List ℕ) → list_any is_end digits_of ≡ false → behind_first_end (drop 11 (header digits_of ++ rest)) ≡ rest
behind_header digits_of rest none =
    let front = 57 ∷ 61 ∷ digits_of in
    let moved : drop 11 (header digits_of ++ rest) ≡ front ++ 1 ∷ rest = ap (λ (x : List ℕ). 57 ∷ 61 ∷ x) (append_assoc digits_of (1 ∷ []) rest) in
    let none_before : list_any is_end front ≡ false = none in
    ap behind_first_end moved ∙ behind_first front rest none_before

pub front_behind : (digits_of rest : List ℕ) → list_any is_end digits_of ≡ false → IsFront (header digits_of ++ rest) (14 + length digits_of)
front_behind digits_of rest none = record {
  inside = omega (arith, length-append (header digits_of) rest, length-header digits_of);
  behind = drop_at (header digits_of) rest (14 + length digits_of) (length-header digits_of) ∙ sym (behind_header digits_of rest none);
}

-- a number has no end in it
pub numeral_has_no_end : (bytes : List ℕ) (n : ℕ) → numeral bytes ≡ Some n → list_any is_end bytes ≡ false
unfolding numeral
numeral_has_no_end bytes n counts =
    no_mark 1 (inl (omega arith)) bytes (place_found (list_all is_ascii_digit bytes) (digits_value 10 bytes) n counts).0
