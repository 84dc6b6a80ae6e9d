-- BodyLength, and the bytes that declare it.
use Rattle.std.proofs.Common.{◌≡◌, ℕ, suc, ◌+◌, ◌-◌, ◌*◌, ◌<◌, ◌≤◌, true, false, ◌&&◌, eqb, ltb, List, [], ◌∷◌, ◌++◌, length, take, drop, Some, ◌⊎◌, inl, inr, refl, sym, ◌∙◌, ap, subst, arith}
use Rattle.std.specs.Char.{is_ascii_digit, digit_value}
use Rattle.std.specs.List.{list_all}
use Rattle.std.specs.Str.Parse.{digits_value, digits_value_after}
use Rattle.std.proofs.lemmas.Bool.{and_parts, and_from, eqb-true, ltb-true}
use Rattle.std.proofs.lemmas.Bool.Decides.{nat_tests}
use Rattle.std.proofs.lemmas.List.{take-append-drop}
use lib.Pointwise.{bytes_decides}
use Rattle.fix_fields.specs.Forms.{numeral}
use Rattle.fix_fields.specs.Marks.{place_found}
use Rattle.fix_frames.specs.FrameLaws.{digit_is}
use Rattle.fix_frames.specs.Places.{begins, begin_string, length_after, body_length}
use Rattle.fix_frames.specs.PlaceLaws.{few_more, body_length-one, body_length-two}

-- ---- from digits to what they declare

not_five : (d : ℕ) → d < 5 → eqb d 5 ≡ false
not_five d h = grind (arith, nat_tests)

length_after-digits : (digits value : ℕ) (ds more : List ℕ) → list_all is_ascii_digit ds ≡ true → digits + length ds ≤ 5 → length_after digits value (ds ++ 1 ∷ more) ≡ length_after (digits + length ds) (digits_value_after 10 value ds) (1 ∷ [])
length_after-digits digits value [] more all few =
    let sum : digits + 0 ≡ digits = omega arith in
    rw sum refl
length_after-digits digits value (c ∷ cs) more all few =
    let f = and_parts (is_ascii_digit c) (list_all is_ascii_digit cs) all in
    let here : is_ascii_digit c ≡ true = f.0 in
    let room : eqb digits 5 ≡ false = not_five digits (omega arith) in
    let next = length_after-digits (digits + 1) (value * 10 + (c - 48)) cs more f.1 (omega arith) in
    let count : digits + 1 + length cs ≡ digits + suc (length cs) = omega arith in
    let worth : value * 10 + (c - 48) ≡ value * 10 + digit_value c = ap (λ (n : ℕ). value * 10 + n) (sym (digit_is c here)) in
    rw (here, room) (next ∙ ap (λ (n : ℕ). length_after n (digits_value_after 10 (value * 10 + (c - 48)) cs) (1 ∷ [])) count ∙ ap (λ (n : ℕ). length_after (digits + suc (length cs)) (digits_value_after 10 n cs) (1 ∷ [])) worth)

-- digits that are worth a number, and SOH, are the BodyLength of that number
pub body_length-digits : (ds more : List ℕ) (n : ℕ) → length ds ≤ 5 → numeral ds ≡ Some n → body_length (57 ∷ 61 ∷ (ds ++ 1 ∷ more)) ≡ length_after (length ds) n (1 ∷ [])
unfolding numeral
body_length-digits ds more n few counts =
    let f = place_found (list_all is_ascii_digit ds) (digits_value 10 ds) n counts in
    let none_before : 0 + length ds ≡ length ds = omega arith in
    body_length-two 57 61 (ds ++ 1 ∷ more) ∙ length_after-digits 0 0 ds more f.0 (omega arith)
    ∙ ap (λ (k : ℕ). length_after k (digits_value 10 ds) (1 ∷ [])) none_before ∙ ap (λ (v : ℕ). length_after (length ds) v (1 ∷ [])) f.1

-- ---- and back

-- digits and SOH, behind so many digits
record HasDigits (digits value : ℕ) (bytes : List ℕ) : Type 0 where
  ds : List ℕ
  rest : List ℕ
  bytes_are : bytes ≡ ds ++ 1 ∷ rest
  all : list_all is_ascii_digit ds ≡ true
  some : 0 < digits + length ds
  few : digits + length ds ≤ 5

-- at most five digits and nothing behind them
record IsBegun (digits value : ℕ) (bytes : List ℕ) : Type 0 where
  is : length_after digits value bytes ≡ length_after 0 0 []
  all : list_all is_ascii_digit bytes ≡ true
  few : digits + length bytes ≤ 5

-- what can stand where a length is wanted: the length, a beginning of one, as no bytes are, or none, as a byte 0 is
abbrev Judges : ℕ → ℕ → List ℕ → Type 0
Judges digits value bytes =
    HasDigits digits value bytes
    ⊎ (IsBegun digits value bytes ⊎ (length_after digits value bytes ≡ length_after 0 0 (0 ∷ [])))

no_digit : (digits value b : ℕ) (bs : List ℕ) → is_ascii_digit b ≡ false → digits ≤ 5 → Judges digits value (b ∷ bs)
no_digit digits value b bs other few =
    elim (eqb b 1 && ltb 0 digits) as (λ t. ((eqb b 1 && ltb 0 digits) ≡ t) → Judges digits value (b ∷ bs)) [
      | true ↦ λ e.
          let parts = and_parts (eqb b 1) (ltb 0 digits) e in
          let soh : b ≡ 1 = eqb-true b 1 parts.0 in
          let above : 0 < digits = ltb-true 0 digits parts.1 in
          inl (record { ds = []; rest = bs; bytes_are = ap (λ (x : ℕ). x ∷ bs) soh; all = refl; some = omega arith; few = omega arith })
      | false ↦ λ e. inr (inr (rw (other, e) refl))
    ] refl

judges : (digits value : ℕ) (bytes : List ℕ) → digits ≤ 5 → Judges digits value bytes
judges digits value [] few = inr (inl (record { is = refl; all = refl; few = omega arith }))
judges digits value (b ∷ bs) few =
    elim (is_ascii_digit b) as (λ t. (is_ascii_digit b ≡ t) → Judges digits value (b ∷ bs)) [
      | false ↦ λ other. no_digit digits value b bs other few
      | true ↦ λ digit. elim (eqb digits 5) as (λ t. (eqb digits 5 ≡ t) → Judges digits value (b ∷ bs)) [
        | true ↦ λ full. inr (inr (rw (digit, full) refl))
        | false ↦ λ room. elim (judges (digits + 1) (value * 10 + (b - 48)) bs (few_more digits few room)) [
          | inl h ↦ inl (record {
            ds = b ∷ h.ds;
            rest = h.rest;
            bytes_are = ap (λ (x : List ℕ). b ∷ x) h.bytes_are;
            all = and_from _ _ digit h.all;
            some = omega arith;
            few = omega (arith, h.few);
          })
          | inr (inl e) ↦ inr (inl (record { is = rw (digit, room) e.is; all = and_from _ _ digit e.all; few = omega (arith, e.few) }))
          | inr (inr e) ↦ inr (inr (rw (digit, room) e))
        ]
      ] refl
    ] refl

-- BodyLength at the front of bytes
pub record HasLength (bytes : List ℕ) : Type 0 where
  pub ds : List ℕ
  pub rest : List ℕ
  pub worth : ℕ
  pub bytes_are : bytes ≡ 57 ∷ 61 ∷ (ds ++ 1 ∷ rest)
  pub counts : numeral ds ≡ Some worth
  pub some : 0 < length ds
  pub few : length ds ≤ 5

-- a beginning of a BodyLength, which some bytes behind it complete
pub record MayGrow (bytes : List ℕ) : Type 0 where
  pub is : body_length bytes ≡ length_after 0 0 []
  pub more : List ℕ
  pub grown : HasLength (bytes ++ more)

-- bytes have a BodyLength, or a beginning of one, or none
abbrev pub Lengths : List ℕ → Type 0
Lengths bytes = HasLength bytes ⊎ (MayGrow bytes ⊎ (body_length bytes ≡ length_after 0 0 (0 ∷ [])))

-- the shortest one
zero_length : (rest : List ℕ) → HasLength (57 ∷ 61 ∷ 48 ∷ 1 ∷ rest)
unfolding numeral
zero_length rest = record { ds = 48 ∷ []; rest = rest; worth = 0; bytes_are = refl; counts = refl; some = omega arith; few = omega arith }

digits_grow : (bs : List ℕ) → list_all is_ascii_digit bs ≡ true → length bs ≤ 5 → (more : List ℕ) × HasLength (57 ∷ 61 ∷ (bs ++ more))
unfolding numeral
digits_grow [] all few = (48 ∷ 1 ∷ [], zero_length [])
digits_grow (b ∷ bs) all few =
    (1 ∷ [], record { ds = b ∷ bs; rest = []; worth = digits_value 10 (b ∷ bs); bytes_are = refl; counts = rw all refl; some = omega arith; few = few })

lengths_two : (bs : List ℕ) → Judges 0 0 bs → Lengths (57 ∷ 61 ∷ bs)
unfolding numeral
lengths_two bs (inl h) =
    let all : list_all is_ascii_digit h.ds ≡ true = h.all in
    inl (record {
      ds = h.ds;
      rest = h.rest;
      worth = digits_value 10 h.ds;
      bytes_are = ap (λ (x : List ℕ). 57 ∷ 61 ∷ x) h.bytes_are;
      counts = rw all refl;
      some = omega (arith, h.some);
      few = omega (arith, h.few);
    })
lengths_two bs (inr (inl e)) =
    let more = digits_grow bs e.all (omega (arith, e.few)) in
    inr (inl (record { is = body_length-two 57 61 bs ∙ e.is; more = more.0; grown = more.1 }))
lengths_two bs (inr (inr e)) = inr (inr (body_length-two 57 61 bs ∙ e))

pub lengths : (bytes : List ℕ) → Lengths bytes
unfolding body_length
lengths [] = inr (inl (record { is = refl; more = 57 ∷ 61 ∷ 48 ∷ 1 ∷ []; grown = zero_length [] }))
lengths (a ∷ []) =
    elim (eqb a 57) as (λ t. (eqb a 57 ≡ t) → Lengths (a ∷ [])) [
      | true ↦ λ e.
          let nine : 57 ≡ a = sym (eqb-true a 57 e) in
          inr (inl (record { is = body_length-one a ∙ rw e refl; more = 61 ∷ 48 ∷ 1 ∷ []; grown = subst (λ (x : ℕ). HasLength (x ∷ 61 ∷ 48 ∷ 1 ∷ [])) nine (zero_length []) }))
      | false ↦ λ e. inr (inr (body_length-one a ∙ rw e refl))
    ] refl
lengths (a ∷ b ∷ bs) =
    elim (eqb a 57) as (λ t. (eqb a 57 ≡ t) → Lengths (a ∷ b ∷ bs)) [
      | false ↦ λ e. inr (inr (body_length-two a b bs ∙ rw e refl))
      | true ↦ λ nine. elim (eqb b 61) as (λ t. (eqb b 61 ≡ t) → Lengths (a ∷ b ∷ bs)) [
        | false ↦ λ e. inr (inr (body_length-two a b bs ∙ rw (nine, e) refl))
        | true ↦ λ sign.
            let same : 57 ∷ 61 ∷ bs ≡ a ∷ b ∷ bs = ap (λ (x : ℕ). 57 ∷ x ∷ bs) (sym (eqb-true b 61 sign)) ∙ ap (λ (x : ℕ). x ∷ b ∷ bs) (sym (eqb-true a 57 nine)) in
            subst Lengths same (lengths_two bs (judges 0 0 bs (omega arith)))
      ] refl
    ] refl

-- ---- BeginString

-- bytes that begin with it
pub begins_with : (bytes : List ℕ) → begins bytes ≡ true → bytes ≡ begin_string ++ drop 11 bytes
begins_with bytes h =
    sym (take-append-drop 11 bytes) ∙ ap (λ (x : List ℕ). x ++ drop 11 bytes) (sym ((bytes_decides begin_string (take 11 bytes)).0 h))

pub begins_so : (bytes rest : List ℕ) → bytes ≡ begin_string ++ rest → begins bytes ≡ true
begins_so bytes rest e = (bytes_decides begin_string (take 11 bytes)).1 (sym (ap (λ (x : List ℕ). take 11 x) e))
