-- What is found as a whole frame is spelled as one.
use Rattle.std.proofs.Common.{◌≡◌, ℕ, zero, suc, ◌+◌, ◌-◌, ◌*◌, ◌%◌, ◌<◌, ◌≤◌, Bool, true, false, not, ◌&&◌, cond, eqb, ltb, List, [], ◌∷◌, ◌++◌, length, take, drop, get_or, Some, ◌⊎◌, inl, inr, refl, sym, ◌∙◌, ap, subst, arith, append_assoc, length-append, length-drop}
use Rattle.std.specs.Prelude.{codes, sum}
use Rattle.std.specs.Char.{is_ascii_digit, digit_value}
use Rattle.std.specs.List.{list_all, starts_with}
use Rattle.std.specs.Str.Parse.{digits_value, digits_value_after}
use Rattle.std.proofs.lemmas.Bool.{and_parts, and_from, eqb-true, ltb-true, ltb-false, not-false}
use Rattle.std.proofs.lemmas.List.{take_at, drop_at, drop-drop, take_all, take-append-drop, length-take-le, get_or-append-add, get_or_append_left, take_more, take-append-le}
use Rattle.std.proofs.Math.Seq.{take-append-add}
use Rattle.venue_words.specs.declared.limits.TheConstants.{MAX_FRAME_BYTES}
use lib.Pointwise.{bytes_decides}
use Rattle.fix_fields.specs.Content.{IsFront}
use Rattle.fix_fields.specs.Forms.{numeral}
use Rattle.fix_write.specs.Digits.{three_digits}
use Rattle.fix_frames.specs.declared.place.Place.TheVariants.{Passed, Unfinished, Long, Whole}
use Rattle.fix_frames.specs.declared.place.BodyLength.{BodyLength}
use Rattle.fix_frames.specs.declared.place.BodyLength.TheVariants.{Bad, Partial, Declared}
use Rattle.fix_frames.specs.Frames.{header, check_sum, IsFrame}
use Rattle.fix_frames.specs.FrameLaws.{digit_is, length-header, length-three}
use Rattle.fix_frames.specs.FrontLaws.{numeral_has_no_end, front_behind}
use Rattle.fix_frames.specs.Places.{length_after, body_length, begins, begin_string, has_check_sum, is_frame, judged, place_at}
use Rattle.fix_frames.specs.PlaceLaws.{few_more, body_length-one, body_length-two}

-- which way a test went
chosen : {A : Type 0} (b : Bool) (x y z : A) → cond b x y ≡ z → ((b ≡ true) × (x ≡ z)) ⊎ ((b ≡ false) × (y ≡ z))
chosen true x y z h = inl (refl, h)
chosen false x y z h = inr (refl, h)

-- the digits of a length that is declared, behind so many of such a value
record Declares (digits value : ℕ) (bytes : List ℕ) (count worth : ℕ) : Type 0 where
  ds : List ℕ
  rest : List ℕ
  bytes_are : bytes ≡ ds ++ 1 ∷ rest
  all : list_all is_ascii_digit ds ≡ true
  many : digits + length ds ≡ count
  value_is : digits_value_after 10 value ds ≡ worth
  some : 0 < count
  few : count ≤ 5

above_none : (digits : ℕ) → ltb 0 digits ≡ true → 0 < digits
above_none digits h = ltb-true 0 digits h

declares : (digits value : ℕ) (bytes : List ℕ) (count worth : ℕ) → digits ≤ 5 → length_after digits value bytes ≡ Declared count worth → Declares digits value bytes count worth
declares digits value [] count worth few h = absurd (cc)
declares digits value (b ∷ bs) count worth few h =
    elim (chosen (not (is_ascii_digit b)) (cond (eqb b 1 && ltb 0 digits) (Declared digits value) Bad) (cond (eqb digits 5) Bad (length_after (digits + 1) (value * 10 + (b - 48)) bs)) (Declared count worth) h) [
      | inl p ↦ elim (chosen (eqb b 1 && ltb 0 digits) (Declared digits value) Bad (Declared count worth) p.1) [
        | inl q ↦
            let parts = and_parts (eqb b 1) (ltb 0 digits) q.0 in
            let soh : b ≡ 1 = eqb-true b 1 parts.0 in
            let d : digits ≡ count = cc in
            let v : value ≡ worth = cc in
            let positive = above_none digits parts.1 in
            record { ds = []; rest = bs; bytes_are = ap (λ (x : ℕ). x ∷ bs) soh; all = refl; many = omega arith; value_is = v; some = omega arith; few = omega arith }
        | inr q ↦ absurd (let e : Bad ≡ Declared count worth = q.1 in cc)
      ]
      | inr p ↦ elim (chosen (eqb digits 5) Bad (length_after (digits + 1) (value * 10 + (b - 48)) bs) (Declared count worth) p.1) [
        | inl q ↦ absurd (let e : Bad ≡ Declared count worth = q.1 in cc)
        | inr q ↦
            let digit : is_ascii_digit b ≡ true = not-false (is_ascii_digit b) p.0 in
            let r = declares (digits + 1) (value * 10 + (b - 48)) bs count worth (few_more digits few q.0) q.1 in
            let worth_of : value * 10 + digit_value b ≡ value * 10 + (b - 48) = ap (λ (n : ℕ). value * 10 + n) (digit_is b digit) in
            record {
              ds = b ∷ r.ds;
              rest = r.rest;
              bytes_are = ap (λ (x : List ℕ). b ∷ x) r.bytes_are;
              all = and_from _ _ digit r.all;
              many = omega (arith, r.many);
              value_is = ap (λ (n : ℕ). digits_value_after 10 n r.ds) worth_of ∙ r.value_is;
              some = r.some;
              few = r.few;
            }
      ]
    ]

-- BodyLength at the front of bytes
record HasLength (bytes : List ℕ) (count worth : ℕ) : Type 0 where
  ds : List ℕ
  rest : List ℕ
  bytes_are : bytes ≡ 57 ∷ 61 ∷ (ds ++ 1 ∷ rest)
  counts : numeral ds ≡ Some worth
  many : length ds ≡ count
  some : 0 < count
  few : count ≤ 5

body_length-nil : body_length [] ≡ Partial
unfolding body_length
body_length-nil = refl

has_length : (bytes : List ℕ) (count worth : ℕ) → body_length bytes ≡ Declared count worth → HasLength bytes count worth
unfolding numeral
has_length [] count worth h = absurd (let e : Partial ≡ Declared count worth = sym body_length-nil ∙ h in cc)
has_length (a ∷ []) count worth h =
    elim (chosen (not (eqb a 57)) Bad Partial (Declared count worth) (sym (body_length-one a) ∙ h)) [
      | inl p ↦ absurd (let e : Bad ≡ Declared count worth = p.1 in cc)
      | inr p ↦ absurd (let e : Partial ≡ Declared count worth = p.1 in cc)
    ]
has_length (a ∷ b ∷ bs) count worth h =
    elim (chosen (not (eqb a 57)) Bad (cond (not (eqb b 61)) Bad (length_after 0 0 bs)) (Declared count worth) (sym (body_length-two a b bs) ∙ h)) [
      | inl p ↦ absurd (let e : Bad ≡ Declared count worth = p.1 in cc)
      | inr p ↦ elim (chosen (not (eqb b 61)) Bad (length_after 0 0 bs) (Declared count worth) p.1) [
        | inl q ↦ absurd (let e : Bad ≡ Declared count worth = q.1 in cc)
        | inr q ↦
            let nine : a ≡ 57 = eqb-true a 57 (not-false _ p.0) in
            let sign : b ≡ 61 = eqb-true b 61 (not-false _ q.0) in
            let r = declares 0 0 bs count worth (omega arith) q.1 in
            let all : list_all is_ascii_digit r.ds ≡ true = r.all in
            let value : digits_value 10 r.ds ≡ worth = r.value_is in
            record {
              ds = r.ds;
              rest = r.rest;
              bytes_are = ap (λ (x : ℕ). x ∷ b ∷ bs) nine ∙ ap (λ (x : ℕ). 57 ∷ x ∷ bs) sign ∙ ap (λ (x : List ℕ). 57 ∷ 61 ∷ x) r.bytes_are;
              counts = rw (all, value) refl;
              many = omega (arith, r.many);
              some = r.some;
              few = r.few;
            }
      ]
    ]

-- bytes that begin so
front_is : (front bytes : List ℕ) → starts_with eqb bytes front ≡ true → take (length front) bytes ≡ front
front_is front bytes h = sym ((bytes_decides front (take (length front) bytes)).0 h)

front_more : (front bytes : List ℕ) → starts_with eqb bytes front ≡ true → bytes ≡ front ++ drop (length front) bytes
front_more front bytes h = sym (take-append-drop (length front) bytes) ∙ ap (λ (x : List ℕ). x ++ drop (length front) bytes) (front_is front bytes h)

-- a content that begins with `35=` has these three bytes, since CheckSum begins otherwise
three_there : (r : List ℕ) (v : ℕ) → take 3 r ≡ codes "35=" → get_or r v 0 ≡ 49 → 3 ≤ v
three_there [] v e h = absurd (cc)
three_there (x ∷ []) v e h = absurd (cc)
three_there (x ∷ y ∷ []) v e h = absurd (cc)
three_there (x ∷ y ∷ z ∷ rest) zero e h = absurd (let a : x ≡ 51 = cc in omega arith)
three_there (x ∷ y ∷ z ∷ rest) (suc zero) e h = absurd (let a : y ≡ 53 = cc in omega arith)
three_there (x ∷ y ∷ z ∷ rest) (suc (suc zero)) e h = absurd (let a : z ≡ 61 = cc in omega arith)
three_there (x ∷ y ∷ z ∷ rest) (suc (suc (suc n))) e h = omega arith

-- the content, whose length was declared, and CheckSum behind it
found_frame : (ds content trailer : List ℕ) → 0 < length ds → length ds ≤ 5 → numeral ds ≡ Some (length content) → length trailer ≡ 7 → is_frame (14 + length ds) (length content) (header ds ++ (content ++ trailer)) ≡ true → IsFrame (header ds ++ (content ++ trailer))
unfolding is_frame has_check_sum
found_frame ds content trailer some few counts seven h =
    let o = header ds in
    let k = 14 + length ds in
    let v = length content in
    let r = content ++ trailer in
    let w = o ++ r in
    let before = o ++ content in
    let parted : w ≡ before ++ trailer = sym (append_assoc o content trailer) in
    let many : length before ≡ k + v = length-append o content ∙ ap (λ (n : ℕ). n + v) (length-header ds) in
    let p = and_parts (starts_with eqb (drop k w) (codes "35=")) _ h in
    let q = and_parts (eqb (get_or w (k + v - 1) 0) 1) _ p.1 in
    let s = and_parts (starts_with eqb (drop (k + v) w) (codes "10=")) _ q.1 in
    let behind : drop k w ≡ r = drop_at o r k (length-header ds) in
    let after : drop (k + v) w ≡ trailer = ap (drop (k + v)) parted ∙ drop_at before trailer (k + v) many in
    let summed : take (k + v) w ≡ before = ap (take (k + v)) parted ∙ take_at before trailer (k + v) many in
    let opens : take 3 r ≡ codes "35=" = ap (take 3) (sym behind) ∙ front_is (codes "35=") (drop k w) p.0 in
    let closes : trailer ≡ codes "10=" ++ drop 3 trailer = front_more (codes "10=") trailer (subst (λ (x : List ℕ). starts_with eqb x (codes "10=") ≡ true) after s.0) in
    let first : get_or r v 0 ≡ 49 = ap (λ (n : ℕ). get_or r n 0) (let n : v ≡ v + 0 = omega arith in n) ∙ get_or-append-add content trailer 0 0 ∙ ap (λ (x : List ℕ). get_or x 0 0) closes in
    let three = three_there r v opens first in
    let start = drop 3 content in
    let content_opens : content ≡ codes "35=" ++ start = sym (take-append-drop 3 content) ∙ ap (λ (x : List ℕ). x ++ start) (sym (take-append-le 3 content trailer three) ∙ opens) in
    let digits_of = three_digits (sum (take (k + v) w) % 256) ++ 1 ∷ [] in
    let four : length digits_of ≡ 4 = omega (arith, length-append (three_digits (sum (take (k + v) w) % 256)) (1 ∷ []), length-three (sum (take (k + v) w) % 256)) in
    let rest : drop (k + v + 3) w ≡ drop 3 trailer = sym (drop-drop 3 (k + v) w) ∙ ap (drop 3) after in
    let last : drop 3 trailer ≡ digits_of = sym (take_all (length digits_of) (drop 3 trailer) (omega (arith, length-drop 3 trailer))) ∙ ap (take (length digits_of)) (sym rest) ∙ front_is digits_of (drop (k + v + 3) w) s.1 in
    let check : trailer ≡ check_sum before = closes ∙ ap (λ (x : List ℕ). codes "10=" ++ x) (last ∙ ap (λ (x : List ℕ). three_digits (sum x % 256) ++ 1 ∷ []) summed) in
    let place : k + v - 1 ≡ length o + (v - 1) = omega (arith, length-header ds) in
    let mark : get_or r (v - 1) 0 ≡ 1 = sym (get_or-append-add o r (v - 1) 0) ∙ ap (λ (n : ℕ). get_or w n 0) (sym place) ∙ eqb-true _ 1 q.0 in
    let i = v - 1 in
    let more : take (i + 1) content ≡ take i content ++ get_or content i 0 ∷ [] = take_more content i 0 (omega arith) in
    let whole : take (i + 1) content ≡ content = take_all (i + 1) content (omega arith) in
    let end : get_or content i 0 ≡ 1 = sym (get_or_append_left content trailer 0 i (omega arith)) ∙ mark in
    record {
      digits = ds;
      content = content;
      start = start;
      bytes = parted ∙ ap (λ (x : List ℕ). before ++ x) check;
      some = some;
      few = few;
      counts = counts;
      opens = content_opens;
      closes = record { most = take i content; ends = sym whole ∙ more ∙ ap (λ (x : ℕ). take i content ++ x ∷ []) end };
    }

-- the bytes that were declared, behind BeginString and BodyLength
declared_frame : (bytes : List ℕ) (d v : ℕ) → body_length (drop 11 bytes) ≡ Declared d v → begins bytes ≡ true → 21 + d + v ≤ length bytes → is_frame (14 + d) v (take (21 + d + v) bytes) ≡ true → IsFrame (take (21 + d + v) bytes)
declared_frame bytes d v e opens enough h =
    let l = has_length (drop 11 bytes) d v e in
    let o = header l.ds in
    let size = 21 + d + v in
    let whole : bytes ≡ o ++ l.rest =
    front_more begin_string bytes opens ∙ ap (λ (x : List ℕ). begin_string ++ x) l.bytes_are ∙ sym (ap (λ (x : List ℕ). begin_string ++ 57 ∷ 61 ∷ x) (append_assoc l.ds (1 ∷ []) l.rest)) in
    let long : length bytes ≡ 14 + d + length l.rest = omega (arith, ap length whole, length-append o l.rest, length-header l.ds, l.many) in
    let r = take (v + 7) l.rest in
    let all : length r ≡ v + 7 = length-take-le (v + 7) l.rest (omega arith) in
    let content = take v r in
    let trailer = drop v r in
    let len : length content ≡ v = length-take-le v r (omega arith) in
    let seven : length trailer ≡ 7 = omega (arith, length-drop v r) in
    let count : size ≡ length o + (v + 7) = omega (arith, length-header l.ds, l.many) in
    let frame : take size bytes ≡ o ++ (content ++ trailer) =
    ap (take size) whole ∙ ap (λ (m : ℕ). take m (o ++ l.rest)) count ∙ take-append-add o l.rest (v + 7) ∙ ap (λ (x : List ℕ). o ++ x) (sym (take-append-drop v r)) in
    let w = o ++ (content ++ trailer) in
    let test : is_frame (14 + length l.ds) (length content) w ≡ true =
    ap (λ (m : ℕ). is_frame (14 + m) (length content) w) l.many ∙ ap (λ (m : ℕ). is_frame (14 + d) m w) len ∙ ap (is_frame (14 + d) v) (sym frame) ∙ h in
    let counts : numeral l.ds ≡ Some (length content) = l.counts ∙ ap (λ (m : ℕ). Some m) (sym len) in
    subst IsFrame (sym frame) (found_frame l.ds content trailer (omega (arith, l.some, l.many)) (omega (arith, l.few, l.many)) counts seven test)

-- its content begins behind what was read
declared_front : (bytes : List ℕ) (d v : ℕ) → body_length (drop 11 bytes) ≡ Declared d v → begins bytes ≡ true → 21 + d + v ≤ length bytes → IsFront (take (21 + d + v) bytes) (14 + d)
declared_front bytes d v e opens enough =
    let l = has_length (drop 11 bytes) d v e in
    let o = header l.ds in
    let size = 21 + d + v in
    let whole : bytes ≡ o ++ l.rest =
    front_more begin_string bytes opens ∙ ap (λ (x : List ℕ). begin_string ++ x) l.bytes_are ∙ sym (ap (λ (x : List ℕ). begin_string ++ 57 ∷ 61 ∷ x) (append_assoc l.ds (1 ∷ []) l.rest)) in
    let count : size ≡ length o + (v + 7) = omega (arith, length-header l.ds, l.many) in
    let frame : take size bytes ≡ o ++ take (v + 7) l.rest = ap (take size) whole ∙ ap (λ (m : ℕ). take m (o ++ l.rest)) count ∙ take-append-add o l.rest (v + 7) in
    let front : IsFront (o ++ take (v + 7) l.rest) (14 + length l.ds) = front_behind l.ds (take (v + 7) l.rest) (numeral_has_no_end l.ds v l.counts) in
    subst (λ (f : List ℕ). IsFront f (14 + d)) (sym frame) (subst (λ (m : ℕ). IsFront (o ++ take (v + 7) l.rest) (14 + m)) l.many front)

judged_found : (found : BodyLength) (bytes : List ℕ) (n front : ℕ) → body_length (drop 11 bytes) ≡ found → begins bytes ≡ true → judged found bytes ≡ Whole n front → IsFrame (take n bytes) × (n ≤ MAX_FRAME_BYTES) × IsFront (take n bytes) front
unfolding judged
judged_found Bad bytes n front e opens h = absurd (cc)
judged_found Partial bytes n front e opens h = absurd (cc)
judged_found (Declared d v) bytes n front e opens h =
    let size = 21 + d + v in
    let here = Whole size (14 + d) in
    let there = Whole n front in
    let last = cond (is_frame (14 + d) v (take size bytes)) here Passed in
    elim (chosen (ltb MAX_FRAME_BYTES size) Long (cond (ltb (length bytes) size) Unfinished last) there h) [
      | inl p ↦ absurd (let x : Long ≡ Whole n front = p.1 in cc)
      | inr p ↦ elim (chosen (ltb (length bytes) size) Unfinished last there p.1) [
        | inl q ↦ absurd (let x : Unfinished ≡ Whole n front = q.1 in cc)
        | inr q ↦ elim (chosen (is_frame (14 + d) v (take size bytes)) here Passed there q.1) [
          | inl s ↦
              let x : Whole size (14 + d) ≡ Whole n front = s.1 in
              let same : size ≡ n = cc in
              let begin : 14 + d ≡ front = cc in
              let enough = ltb-false (length bytes) size q.0 in
              let frame = declared_frame bytes d v e opens enough s.0 in
              let content = declared_front bytes d v e opens enough in (
                subst (λ (m : ℕ). IsFrame (take m bytes)) same frame,
                omega (arith, ltb-false MAX_FRAME_BYTES size p.0),
                subst (λ (m : ℕ). IsFront (take m bytes) front) same (subst (IsFront (take size bytes)) begin content),
              )
          | inr s ↦ absurd (let x : Passed ≡ Whole n front = s.1 in cc)
        ]
      ]
    ]

-- what is found at the front of bytes is a frame within the limit, whose content begins where it was found to begin
pub whole_found : (bytes : List ℕ) (n front : ℕ) → place_at bytes ≡ Whole n front → IsFrame (take n bytes) × (n ≤ MAX_FRAME_BYTES) × IsFront (take n bytes) front
unfolding place_at
whole_found bytes n front h =
    elim (chosen (begins bytes) (judged (body_length (drop 11 bytes)) bytes) Passed (Whole n front) h) [
      | inl p ↦ judged_found (body_length (drop 11 bytes)) bytes n front refl p.0 p.1
      | inr p ↦ absurd (let x : Passed ≡ Whole n front = p.1 in cc)
    ]
