-- What stands at a place is a whole frame exactly where a frame is spelled there.
use Rattle.std.proofs.Common.{◌≡◌, ℕ, suc, ◌+◌, ◌-◌, ◌*◌, ◌%◌, ◌<◌, ◌≤◌, true, false, eqb, ltb, List, [], ◌∷◌, ◌++◌, length, take, drop, get_or, Some, refl, sym, ◌∙◌, ap, arith, append_assoc, length-append}
use Rattle.std.specs.Prelude.{codes, sum}
use Rattle.std.specs.Char.{is_ascii_digit, digit_value}
use Rattle.std.specs.List.{list_all, starts_with}
use Rattle.std.specs.Str.Parse.{digits_value, digits_value_after}
use Rattle.std.proofs.lemmas.Bool.{and_parts}
use Rattle.std.proofs.lemmas.Bool.Decides.{nat_tests}
use Rattle.std.proofs.lemmas.List.{take_at, drop_at, drop-drop, take_all, get_or_at}
use Rattle.venue_words.specs.declared.limits.TheConstants.{MAX_FRAME_BYTES}
use lib.Pointwise.{bytes_decides}
use Rattle.fix_fields.specs.Forms.{numeral}
use Rattle.fix_fields.specs.Marks.{place_found}
use Rattle.fix_write.specs.Digits.{three_digits}
use Rattle.fix_frames.specs.declared.place.Place.TheVariants.{Whole}
use Rattle.fix_frames.specs.declared.place.BodyLength.TheVariants.{Declared}
use Rattle.fix_frames.specs.Frames.{header, check_sum, IsFrame}
use Rattle.fix_frames.specs.Places.{length_after, body_length, begins, begin_string, has_check_sum, is_frame, judged, place_at}
use Rattle.fix_frames.specs.PlaceLaws.{body_length-two}

-- ---- a frame that is spelled is found

pub digit_is : (c : ℕ) → is_ascii_digit c ≡ true → digit_value c ≡ c - 48
digit_is c h = grind (arith, nat_tests)

not_five : (d : ℕ) → d < 5 → eqb d 5 ≡ false
not_five d h = grind (arith, nat_tests)

positive : (d : ℕ) → 0 < d → ltb 0 d ≡ true
positive d h = grind (arith, nat_tests)

length_after-digits : (digits value : ℕ) (ds more : List ℕ) → list_all is_ascii_digit ds ≡ true → digits + length ds ≤ 5 → 0 < digits + length ds → length_after digits value (ds ++ 1 ∷ more) ≡ Declared (digits + length ds) (digits_value_after 10 value ds)
length_after-digits digits value [] more all few some =
    let pos : ltb 0 digits ≡ true = positive digits (omega arith) in
    let sum : digits + 0 ≡ digits = omega arith in
    rw (pos, sum) refl
length_after-digits digits value (c ∷ cs) more all few some =
    let f = and_parts (is_ascii_digit c) (list_all is_ascii_digit cs) all in
    let here : is_ascii_digit c ≡ true = f.0 in
    let room : eqb digits 5 ≡ false = not_five digits (omega arith) in
    let next = length_after-digits (digits + 1) (value * 10 + (c - 48)) cs more f.1 (omega arith) (omega arith) in
    let count : digits + 1 + length cs ≡ digits + suc (length cs) = omega arith in
    let worth : value * 10 + (c - 48) ≡ value * 10 + digit_value c = ap (λ (n : ℕ). value * 10 + n) (sym (digit_is c here)) in
    rw (here, room) (next ∙ ap (λ (n : ℕ). Declared n (digits_value_after 10 (value * 10 + (c - 48)) cs)) count ∙ ap (λ (n : ℕ). Declared (digits + suc (length cs)) (digits_value_after 10 n cs)) worth)

body_length-digits : (ds more : List ℕ) (n : ℕ) → 0 < length ds → length ds ≤ 5 → numeral ds ≡ Some n → body_length (57 ∷ 61 ∷ (ds ++ 1 ∷ more)) ≡ Declared (length ds) n
unfolding numeral
body_length-digits ds more n some few counts =
    let f = place_found (list_all is_ascii_digit ds) (digits_value 10 ds) n counts in
    let none_before : 0 + length ds ≡ length ds = omega arith in
    body_length-two 57 61 (ds ++ 1 ∷ more) ∙ length_after-digits 0 0 ds more f.0 (omega arith) (omega arith)
    ∙ ap (λ (k : ℕ). Declared k (digits_value 10 ds)) none_before ∙ ap (Declared (length ds)) f.1

same_front : (a b : List ℕ) → a ≡ b → starts_with eqb a b ≡ true
same_front a b e = (bytes_decides b (take (length b) a)).1 (sym (ap (take (length b)) e ∙ take_all (length b) b (omega arith)))

begins_so : (a b more : List ℕ) → a ≡ b ++ more → starts_with eqb a b ≡ true
begins_so a b more e = (bytes_decides b (take (length b) a)).1 (sym (ap (take (length b)) e ∙ take_at b more (length b) refl))

pub length-three : (n : ℕ) → length (three_digits n) ≡ 3
unfolding three_digits
length-three n = refl

pub length-check_sum : (bytes : List ℕ) → length (check_sum bytes) ≡ 7
length-check_sum bytes =
    omega (arith, length-append (codes "10=") (three_digits (sum bytes % 256) ++ 1 ∷ []), length-append (three_digits (sum bytes % 256)) (1 ∷ []), length-three (sum bytes % 256))

pub length-header : (ds : List ℕ) → length (header ds) ≡ 14 + length ds
length-header ds = omega (arith, length-append ds (1 ∷ []))

pub length-frame : (frame : List ℕ) (f : IsFrame frame) → length frame ≡ 21 + length f.digits + length f.content
length-frame frame f =
    let before = header f.digits ++ f.content in
    omega (arith, ap length f.bytes, length-append before (check_sum before), length-check_sum before, length-append (header f.digits) f.content, length-header f.digits)

has_check_sum-spelled : (before w : List ℕ) (many : ℕ) → w ≡ before ++ check_sum before → length before ≡ many → has_check_sum many w ≡ true
unfolding has_check_sum
has_check_sum-spelled before w many e long =
    let digits_of = three_digits (sum before % 256) in
    let summed : take many w ≡ before = ap (take many) e ∙ take_at before (check_sum before) many long in
    let after : drop many w ≡ check_sum before = ap (drop many) e ∙ drop_at before (check_sum before) many long in
    let behind : drop (many + 3) w ≡ digits_of ++ 1 ∷ [] = sym (drop-drop 3 many w) ∙ ap (drop 3) after in
    let opens : starts_with eqb (drop many w) (codes "10=") ≡ true = begins_so _ (codes "10=") _ after in
    let closes : starts_with eqb (drop (many + 3) w) (three_digits (sum (take many w) % 256) ++ 1 ∷ []) ≡ true = same_front _ _ (behind ∙ ap (λ (x : List ℕ). three_digits (sum x % 256) ++ 1 ∷ []) (sym summed)) in
    rw (opens, closes) refl

is_frame-spelled : (frame : List ℕ) (f : IsFrame frame) → is_frame (14 + length f.digits) (length f.content) frame ≡ true
unfolding is_frame
is_frame-spelled frame f =
    let k = 14 + length f.digits in
    let o = header f.digits in
    let c = f.content in
    let t = check_sum (o ++ c) in
    let parts : frame ≡ o ++ (c ++ t) = f.bytes ∙ append_assoc o c t in
    let behind : drop k frame ≡ c ++ t = ap (drop k) parts ∙ drop_at o (c ++ t) k (length-header f.digits) in
    let opens : starts_with eqb (drop k frame) (codes "35=") ≡ true = begins_so _ (codes "35=") (f.start ++ t) (behind ∙ ap (λ (x : List ℕ). x ++ t) f.opens ∙ append_assoc (codes "35=") f.start t) in
    let most = f.closes.most in
    let inner : frame ≡ (o ++ most) ++ 1 ∷ t = parts ∙ ap (λ (x : List ℕ). o ++ (x ++ t)) f.closes.ends ∙ ap (λ (x : List ℕ). o ++ x) (append_assoc most (1 ∷ []) t) ∙ sym (append_assoc o most (1 ∷ t)) in
    let place : length (o ++ most) ≡ k + length c - 1 = omega (arith, length-append o most, length-header f.digits, ap length f.closes.ends, length-append most (1 ∷ [])) in
    let ends : get_or frame (k + length c - 1) 0 ≡ 1 = ap (λ (x : List ℕ). get_or x (k + length c - 1) 0) inner ∙ get_or_at (o ++ most) 1 t 0 (k + length c - 1) place in
    let ends' : eqb (get_or frame (k + length c - 1) 0) 1 ≡ true = rw ends refl in
    let sum_there : has_check_sum (k + length c) frame ≡ true = has_check_sum-spelled (o ++ c) frame (k + length c) f.bytes (length-append o c ∙ ap (λ (n : ℕ). n + length c) (length-header f.digits)) in
    rw (opens, ends', sum_there) refl

judged-spelled : (frame : List ℕ) (f : IsFrame frame) → length frame ≤ MAX_FRAME_BYTES → judged (Declared (length f.digits) (length f.content)) frame ≡ Whole (length frame) (14 + length f.digits)
unfolding judged
judged-spelled frame f fits =
    let size = 21 + length f.digits + length f.content in
    let long : length frame ≡ size = length-frame frame f in
    let small : ltb MAX_FRAME_BYTES size ≡ false = grind (arith, nat_tests) in
    let there : ltb (length frame) size ≡ false = grind (arith, nat_tests) in
    let all : take size frame ≡ frame = take_all size frame (omega arith) in
    let whole : is_frame (14 + length f.digits) (length f.content) frame ≡ true = is_frame-spelled frame f in
    rw (small, there, all, whole) (ap (λ (m : ℕ). Whole m (14 + length f.digits)) (sym long))

-- a frame that is spelled is found at its first byte
pub place_at-frame : (frame : List ℕ) (f : IsFrame frame) → length frame ≤ MAX_FRAME_BYTES → place_at frame ≡ Whole (length frame) (14 + length f.digits)
unfolding place_at
place_at-frame frame f fits =
    let c = f.content in
    let t = check_sum (header f.digits ++ c) in
    let parts : frame ≡ begin_string ++ 57 ∷ 61 ∷ (f.digits ++ 1 ∷ (c ++ t)) =
    f.bytes ∙ append_assoc (header f.digits) c t ∙ ap (λ (x : List ℕ). begin_string ++ 57 ∷ 61 ∷ x) (append_assoc f.digits (1 ∷ []) (c ++ t)) in
    let opens : begins frame ≡ true = begins_so frame begin_string _ parts in
    let behind : body_length (drop 11 frame) ≡ Declared (length f.digits) (length c) = ap (λ (x : List ℕ). body_length (drop 11 x)) parts ∙ body_length-digits f.digits (c ++ t) (length c) f.some f.few f.counts in
    rw (opens, behind) (judged-spelled frame f fits)
