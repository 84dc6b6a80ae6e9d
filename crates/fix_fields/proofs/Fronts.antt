-- A field that begins with digits and `=` ends at the first end behind these.
use Rattle.std.proofs.Common.{◌≡◌, ℕ, zero, suc, ◌+◌, ◌<◌, ◌≤◌, ◌==◌, ◌&&◌, Bool, true, false, cond, nat_lt, List, [], ◌∷◌, ◌++◌, length, take, drop, Option, Some, None, Result, refl, sym, ◌∙◌, ap, arith, length-take}
use Rattle.std.specs.Prelude.{option_map, slice_index, ◌||◌}
use Rattle.std.specs.List.{list_all, position, position_or_len}
use Rattle.std.specs.Option.{ok_or}
use Rattle.std.specs.Char.{is_ascii_digit}
use Rattle.std.specs.Str.Parse.{digits_value}
use Rattle.std.proofs.lemmas.Bool.Decides.{nat_tests}
use Rattle.fix_fields.specs.declared.field.FieldFault.{FieldFault}
use Rattle.fix_fields.specs.declared.field.FieldFault.TheVariants.{NoEquals, BadTag, NoEnd}
use Rattle.fix_fields.specs.Fields.{◌>>=◌, Cut, is_end, is_equals, plain_cut}
use Rattle.fix_fields.specs.Forms.{tag_of, numeral}
use Rattle.fix_fields.specs.Fronts.{IsInFront, valued, tagged_cut}

-- ---- the tag that is spelled

choose : (a b c : Bool) (x : Option ℕ) → a ≡ false → b ≡ false → c ≡ false → cond (a || (b || c)) None x ≡ x
choose a b c x p q r = rw (p, q, r) refl

is_number : (test : Bool) (value other : ℕ) → test ≡ true → value ≡ other → cond test (Some other) None ≡ Some value
is_number test value other t e = rw (t, e) refl

pub spells : (bytes : List ℕ) (i value : ℕ) → i < length bytes → i ≤ 5 → (i ≡ 0 → ⊥) → (slice_index bytes 0 ≡ 48 → ⊥) → list_all is_ascii_digit (take i bytes) ≡ true → value ≡ digits_value 10 (take i bytes) → tag_of (take i bytes) ≡ Some value
unfolding tag_of numeral
spells [] i value within few some first digits e = absurd (omega arith)
spells (x ∷ xs) zero value within few some first digits e = absurd (some refl)
spells (x ∷ xs) (suc i) value within few some first digits e =
    let long : length (take i xs) ≤ i = omega (arith, length-take i xs) in
    choose (suc (length (take i xs)) == 0) (nat_lt 5 (suc (length (take i xs)))) (x == 48) _ (grind (arith, nat_tests)) (grind (arith, nat_tests)) (grind (arith, nat_tests))
    ∙ is_number (list_all is_ascii_digit (x ∷ take i xs)) value (digits_value 10 (x ∷ take i xs)) digits e

-- ---- the field

no_end : (d : ℕ) → is_ascii_digit d ≡ true → (d == 1) ≡ false
no_end d h = grind (arith, nat_tests)

no_equals : (d : ℕ) → is_ascii_digit d ≡ true → (d == 61) ≡ false
no_equals d h = grind (arith, nat_tests)

both : (a b : Bool) → (a && b) ≡ true → (a ≡ true) × (b ≡ true)
both true true h = (refl, refl)
both true false h = absurd (cc)
both false b h = absurd (cc)

ends : (ds tail : List ℕ) → list_all is_ascii_digit ds ≡ true → position_or_len is_end (ds ++ 61 ∷ tail) ≡ suc (length ds + position_or_len is_end tail)
ends [] tail h = omega arith
ends (d ∷ ds) tail h =
    let two = both (is_ascii_digit d) (list_all is_ascii_digit ds) h in
    let later = ends ds tail two.1 in
    rw (no_end d two.0) (omega (arith, later))

equals : (ds tail : List ℕ) → list_all is_ascii_digit ds ≡ true → position_or_len is_equals (ds ++ 61 ∷ tail) ≡ length ds
equals [] tail h = refl
equals (d ∷ ds) tail h =
    let two = both (is_ascii_digit d) (list_all is_ascii_digit ds) h in
    let later = equals ds tail two.1 in
    rw (no_equals d two.0) (omega (arith, later))

whole_length : (ds tail : List ℕ) → length (ds ++ 61 ∷ tail) ≡ suc (length ds + length tail)
whole_length [] tail = omega arith
whole_length (d ∷ ds) tail = let later = whole_length ds tail in omega (arith, later)

line_of : (ds tail : List ℕ) (n m : ℕ) → m ≡ length ds + 1 + n → take m (ds ++ 61 ∷ tail) ≡ ds ++ 61 ∷ take n tail
line_of [] tail n zero e = absurd (omega arith)
line_of [] tail n (suc m) e = let s : m ≡ n = omega arith in ap (λ (k : ℕ). 61 ∷ take k tail) s
line_of (d ∷ ds) tail n zero e = absurd (omega arith)
line_of (d ∷ ds) tail n (suc m) e = ap (λ (xs : List ℕ). d ∷ xs) (line_of ds tail n m (omega arith))

front_of : (ds xs : List ℕ) → take (length ds) (ds ++ xs) ≡ ds
front_of [] xs = refl
front_of (d ∷ ds) xs = ap (λ (ys : List ℕ). d ∷ ys) (front_of ds xs)

value_of : (ds xs : List ℕ) → drop (suc (length ds)) (ds ++ 61 ∷ xs) ≡ xs
value_of [] xs = refl
value_of (d ∷ ds) xs = value_of ds xs

shifted : (k n m : ℕ) → cond (nat_lt (suc (k + n)) (suc (k + m))) (Some (suc (k + n))) None ≡ option_map (λ x. suc (k + x)) (cond (nat_lt n m) (Some n) None)
shifted k n m =
    let same : nat_lt (suc (k + n)) (suc (k + m)) ≡ nat_lt n m = grind (arith, nat_tests) in
    ap (λ (t : Bool). cond t (Some (suc (k + n))) None) same ∙ mapped (nat_lt n m)
  where
    mapped : (t : Bool) → cond t (Some (suc (k + n))) None ≡ option_map (λ x. suc (k + x)) (cond t (Some n) None)
    mapped true = refl
    mapped false = refl

-- what follows the end of a line
abbrev with_line : ℕ → List ℕ → ℕ → Result Cut FieldFault
with_line at line size =
    ok_or (position is_equals line) (NoEquals at) >>= λ equals.
    ok_or (tag_of (take equals line)) (BadTag at) >>= λ tag.
    valued at tag (drop (equals + 1) line) size

is_at : (n m : ℕ) → n < m → cond (nat_lt n m) (Some n) None ≡ Some n
is_at n m l = let t : nat_lt n m ≡ true = grind (arith, nat_tests) in rw t refl

lined : (at tag size : ℕ) (ds xs : List ℕ) → list_all is_ascii_digit ds ≡ true → tag_of ds ≡ Some tag → with_line at (ds ++ 61 ∷ xs) size ≡ valued at tag xs size
lined at tag size ds xs digits spelled =
    let line = ds ++ 61 ∷ xs in
    let within : length ds < length line = rw (whole_length ds xs) (omega arith) in
    let place : position is_equals line ≡ Some (length ds) = rw (equals ds xs digits) (is_at (length ds) (length line) within) in
    let more : length ds + 1 ≡ suc (length ds) = omega arith in
    ap (λ (o : Option ℕ). ok_or o (NoEquals at) >>= λ equals. ok_or (tag_of (take equals line)) (BadTag at) >>= λ tag. valued at tag (drop (equals + 1) line) size) place
    ∙ ap (λ (ts : List ℕ). ok_or (tag_of ts) (BadTag at) >>= λ tag. valued at tag (drop (length ds + 1) line) size) (front_of ds (61 ∷ xs))
    ∙ ap (λ (o : Option ℕ). ok_or o (BadTag at) >>= λ tag. valued at tag (drop (length ds + 1) line) size) spelled
    ∙ ap (λ (n : ℕ). valued at tag (drop n line) size) more
    ∙ ap (λ (ys : List ℕ). valued at tag ys size) (value_of ds xs)

ended : (at tag : ℕ) (ds tail : List ℕ) (o : Option ℕ) → list_all is_ascii_digit ds ≡ true → tag_of ds ≡ Some tag
    → (ok_or (option_map (λ n. suc (length ds + n)) o) (NoEnd at) >>= λ end. with_line at (take end (ds ++ 61 ∷ tail)) (end + 1))
    ≡ (ok_or o (NoEnd at) >>= λ end. valued at tag (take end tail) (length ds + 1 + end + 1))
ended at tag ds tail None digits spelled = refl
ended at tag ds tail (Some n) digits spelled =
    let size : suc (length ds + n) + 1 ≡ length ds + 1 + n + 1 = omega arith in
    ap (λ (line : List ℕ). with_line at line (suc (length ds + n) + 1)) (line_of ds tail n (suc (length ds + n)) (omega arith))
    ∙ lined at tag (suc (length ds + n) + 1) ds (take n tail) digits spelled
    ∙ ap (λ (s : ℕ). valued at tag (take n tail) s) size

parted : (at tag : ℕ) (ds tail : List ℕ) → list_all is_ascii_digit ds ≡ true → tag_of ds ≡ Some tag → plain_cut at (ds ++ 61 ∷ tail) ≡ tagged_cut at tag (length ds + 1) tail
unfolding plain_cut tagged_cut
parted at tag ds tail digits spelled =
    let place : position is_end (ds ++ 61 ∷ tail) ≡ option_map (λ n. suc (length ds + n)) (position is_end tail) =
    rw (ends ds tail digits, whole_length ds tail) (shifted (length ds) (position_or_len is_end tail) (length tail)) in
    ap (λ (o : Option ℕ). ok_or o (NoEnd at) >>= λ end. with_line at (take end (ds ++ 61 ∷ tail)) (end + 1)) place
    ∙ ended at tag ds tail (position is_end tail) digits spelled

split_at : (xs : List ℕ) (e : ℕ) → e < length xs → slice_index xs e ≡ 61 → xs ≡ take e xs ++ 61 ∷ drop (suc e) xs
split_at [] e l h = absurd (omega arith)
split_at (x ∷ xs) zero l h = ap (λ (y : ℕ). y ∷ xs) h
split_at (x ∷ xs) (suc e) l h = ap (λ (ys : List ℕ). x ∷ ys) (split_at xs e (omega arith) h)

pub front_cut : (at tag e : ℕ) (rest tail : List ℕ) → IsInFront tag e rest → tail ≡ drop (e + 1) rest → tagged_cut at tag (e + 1) tail ≡ plain_cut at rest
front_cut at tag e rest tail f is =
    let more : e + 1 ≡ suc e = omega arith in
    let long : length (take e rest) ≡ e = let w = f.within in omega (arith, length-take e rest) in
    let behind : tail ≡ drop (suc e) rest = is ∙ ap (λ (n : ℕ). drop n rest) more in
    sym (ap (plain_cut at) (split_at rest e f.within f.equals)
    ∙ parted at tag (take e rest) (drop (suc e) rest) f.digits f.spelled
    ∙ ap (λ (n : ℕ). tagged_cut at tag (n + 1) (drop (suc e) rest)) long
    ∙ ap (λ (ys : List ℕ). tagged_cut at tag (e + 1) ys) (sym behind))
