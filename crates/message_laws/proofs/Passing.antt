-- What stands where a start declares its length, and that garbage is passed over.
use Rattle.std.proofs.Common.{◌≡◌, ℕ, zero, suc, ◌+◌, ◌<◌, ◌≤◌, true, false, ltb, List, [], ◌∷◌, ◌++◌, length, take, drop, get_or, ◌⊎◌, inl, inr, refl, sym, ◌∙◌, ap, subst, arith, append_assoc, length-append}
use Rattle.std.proofs.lemmas.Bool.{cases_lt, eqb-false, ltb-true}
use Rattle.std.proofs.lemmas.Bool.Decides.{nat_tests}
use Rattle.std.proofs.lemmas.List.{append-nil, take-append-le, get_or_at, get_or-take}
use Rattle.venue_words.specs.declared.limits.TheConstants.{MAX_FRAME_BYTES}
use Rattle.fix_frames.specs.Frames.{header, IsFrame}
use Rattle.fix_frames.specs.FrameLaws.{length-header}
use Rattle.fix_frames.specs.FoundLaws.{whole_found}
use Rattle.fix_frames.specs.Places.{begins, begin_string, length_after, body_length, judged, is_frame, place_at}
use Rattle.fix_frames.specs.Streams.{Answer, waits, exceeds, gives, advanced, answer_at, next_from}
use Rattle.fix_frames.specs.StreamLaws.{skips_none}
use Rattle.message_laws.specs.Garbage.{Declares, IsNoFrame, DeclareNothing, IsGarbled, IsGarbage}
use Rattle.message_laws.proofs.Lengths.{body_length-digits, HasLength, lengths, begins_with, begins_so}

-- ---- a start that declares its length

-- a place that is passed over, as the end of a stream is
abbrev pub IsPassed : List ℕ → Type 0
IsPassed bytes = place_at bytes ≡ place_at []

declared_place : (bytes : List ℕ) (size : ℕ) (d : Declares bytes size) → place_at bytes ≡ judged (length_after (length d.digits) d.content (1 ∷ [])) bytes
unfolding place_at
declared_place bytes size d =
    let parts : bytes ≡ begin_string ++ 57 ∷ 61 ∷ (d.digits ++ 1 ∷ d.rest) = d.begins ∙ ap (λ (x : List ℕ). begin_string ++ 57 ∷ 61 ∷ x) (append_assoc d.digits (1 ∷ []) d.rest) in
    let opens : begins bytes ≡ true = begins_so bytes (57 ∷ 61 ∷ (d.digits ++ 1 ∷ d.rest)) parts in
    let behind = ap (λ (x : List ℕ). body_length (drop 11 x)) parts ∙ body_length-digits d.digits d.rest d.content d.few d.counts in
    rw (opens, behind) refl

size_is : (bytes : List ℕ) (size : ℕ) (d : Declares bytes size) → 21 + length d.digits + d.content ≡ size
size_is bytes size d = omega (arith, d.whole, length-header d.digits)

-- a start has BeginString and BodyLength
pub start_long : (bytes : List ℕ) (size : ℕ) → Declares bytes size → 14 ≤ length bytes
start_long bytes size d = omega (arith, ap length d.begins, length-header d.digits, length-append (header d.digits) d.rest)

-- the tests of a length that was declared
over : (size : ℕ) → MAX_FRAME_BYTES < size → ltb MAX_FRAME_BYTES size ≡ true
over size h = grind (arith, nat_tests)

positive : (d : ℕ) → 0 < d → ltb 0 d ≡ true
positive d h = grind (arith, nat_tests)

not_below : (a b : ℕ) → b ≤ a → ltb a b ≡ false
not_below a b h = grind (arith, nat_tests)

-- what is too long is so at once
pub long_place : (bytes : List ℕ) (size : ℕ) → Declares bytes size → MAX_FRAME_BYTES < size → (rest : Answer) → answer_at (place_at bytes) bytes rest ≡ exceeds
unfolding judged
long_place bytes size d above rest =
    let some : ltb 0 (length d.digits) ≡ true = positive (length d.digits) d.some in
    let long : ltb MAX_FRAME_BYTES (21 + length d.digits + d.content) ≡ true = over _ (omega (arith, size_is bytes size d)) in
    ap (λ p. answer_at p bytes rest) (declared_place bytes size d) ∙ rw (some, long) refl

-- a frame that is wrong is passed over
wrong_place : (bytes : List ℕ) → IsNoFrame bytes → IsPassed bytes
unfolding place_at judged
wrong_place bytes g =
    let d = g.declares in
    let size = 21 + length d.digits + d.content in
    let same : size ≡ g.size = size_is bytes g.size d in
    let some : ltb 0 (length d.digits) ≡ true = positive (length d.digits) d.some in
    let small : ltb MAX_FRAME_BYTES size ≡ false = not_below _ _ (omega (arith, g.within)) in
    let whole : ltb (length bytes) size ≡ false = not_below _ _ (omega (arith, g.there)) in
    elim (is_frame (14 + length d.digits) d.content (take size bytes)) as (λ b. (is_frame (14 + length d.digits) d.content (take size bytes) ≡ b) → IsPassed bytes) [
      | true ↦ λ e. absurd (g.wrong (subst (λ (n : ℕ). IsFrame (take n bytes)) same (whole_found bytes size (14 + length d.digits) (declared_place bytes g.size d ∙ rw (some, small, whole, e) refl)).0))
      | false ↦ λ e. declared_place bytes g.size d ∙ rw (some, small, whole, e) refl
    ] refl

-- BeginString and a BodyLength behind it declare a length
declares : (bytes behind : List ℕ) → bytes ≡ begin_string ++ behind → (l : HasLength behind) → Declares bytes (length (header l.ds) + l.worth + 7)
declares bytes behind e l = record {
  digits = l.ds;
  rest = l.rest;
  content = l.worth;
  begins = e ∙ ap (λ (x : List ℕ). begin_string ++ x) l.bytes_are ∙ sym (ap (λ (x : List ℕ). begin_string ++ 57 ∷ 61 ∷ x) (append_assoc l.ds (1 ∷ []) l.rest));
  some = l.some;
  few = l.few;
  counts = l.counts;
  whole = refl;
}

-- what declares nothing is passed over
silent_place : (bytes : List ℕ) → begins bytes ≡ true → DeclareNothing bytes → IsPassed bytes
unfolding place_at judged
silent_place bytes opens none =
    let whole : bytes ≡ begin_string ++ drop 11 bytes = begins_with bytes opens in
    elim (lengths (drop 11 bytes)) [
      | inl l ↦ absurd (none [] _ (declares (bytes ++ []) (drop 11 bytes) (append-nil bytes ∙ whole) l))
      | inr (inl g) ↦ absurd (none g.more _ (declares (bytes ++ g.more) (drop 11 bytes ++ g.more) (ap (λ (x : List ℕ). x ++ g.more) whole ∙ append_assoc begin_string (drop 11 bytes) g.more) g.grown))
      | inr (inr e) ↦ rw (opens, e) refl
    ]

pub garbled_place : (bytes : List ℕ) → begins bytes ≡ true → IsGarbled bytes → IsPassed bytes
garbled_place bytes opens (inl wrong) = wrong_place bytes wrong
garbled_place bytes opens (inr none) = silent_place bytes opens none

-- ---- garbage is passed over

-- BeginString begins with a byte that it has nowhere else
only_first : (n : ℕ) → 0 < n → n < 11 → get_or begin_string n 0 ≡ 56 → ⊥
only_first zero a b h = omega arith
only_first (suc zero) a b h = eqb-false 61 56 refl h
only_first (suc (suc zero)) a b h = eqb-false 70 56 refl h
only_first (suc (suc (suc zero))) a b h = eqb-false 73 56 refl h
only_first (suc (suc (suc (suc zero)))) a b h = eqb-false 88 56 refl h
only_first (suc (suc (suc (suc (suc zero))))) a b h = eqb-false 84 56 refl h
only_first (suc (suc (suc (suc (suc (suc zero)))))) a b h = eqb-false 46 56 refl h
only_first (suc (suc (suc (suc (suc (suc (suc zero))))))) a b h = eqb-false 49 56 refl h
only_first (suc (suc (suc (suc (suc (suc (suc (suc zero)))))))) a b h = eqb-false 46 56 refl h
only_first (suc (suc (suc (suc (suc (suc (suc (suc (suc zero))))))))) a b h = eqb-false 49 56 refl h
only_first (suc (suc (suc (suc (suc (suc (suc (suc (suc (suc zero)))))))))) a b h = eqb-false 1 56 refl h
only_first (suc (suc (suc (suc (suc (suc (suc (suc (suc (suc (suc n))))))))))) a b h = omega arith

passed_by : (bytes : List ℕ) → begins bytes ≡ false → IsPassed bytes
unfolding place_at
passed_by bytes e = rw e refl

-- BeginString does not reach from garbage into the start behind it
reaches : (garbage rest : List ℕ) → 0 < length garbage → length garbage < 11 → begins (garbage ++ 56 ∷ rest) ≡ true → ⊥
reaches garbage rest some few h =
    let all = garbage ++ 56 ∷ rest in
    let whole : all ≡ begin_string ++ drop 11 all = begins_with all h in
    let here : get_or all (length garbage) 0 ≡ 56 = get_or_at garbage 56 rest 0 (length garbage) refl in
    let inside : get_or all (length garbage) 0 ≡ get_or begin_string (length garbage) 0 =
    sym (get_or-take 11 all (length garbage) 0 few) ∙ ap (λ (x : List ℕ). get_or (take 11 x) (length garbage) 0) whole in
    only_first (length garbage) some few (sym inside ∙ here)

-- what is passed over may not become a frame, as BeginString alone may
pub decided : (bytes : List ℕ) → IsPassed bytes → place_at bytes ≡ place_at begin_string → ⊥
unfolding place_at judged body_length
decided bytes passed u = let x = sym passed ∙ u in cc

begins_less : (bytes more : List ℕ) → 11 ≤ length bytes → begins (bytes ++ more) ≡ true → begins bytes ≡ true
begins_less bytes more long h = rw (← take-append-le 11 bytes more long) h

passed_place : (garbage rest : List ℕ) → 0 < length garbage → IsGarbage garbage (56 ∷ rest) → IsPassed (garbage ++ 56 ∷ rest)
unfolding place_at judged body_length
passed_place garbage rest some garbled =
    let all = garbage ++ 56 ∷ rest in
    elim (begins all) as (λ b. (begins all ≡ b) → IsPassed all) [
      | false ↦ λ e. passed_by all e
      | true ↦ λ e. elim (cases_lt (length garbage) 11) [
        | inl few ↦ absurd (reaches garbage rest some few e)
        | inr long ↦
            let front : begins garbage ≡ true = begins_less garbage (56 ∷ rest) long e in
            let own : garbage ≡ begin_string ++ drop 11 garbage = begins_with garbage front in
            let whole : all ≡ begin_string ++ (drop 11 garbage ++ 56 ∷ rest) = ap (λ (x : List ℕ). x ++ 56 ∷ rest) own ∙ append_assoc begin_string (drop 11 garbage) (56 ∷ rest) in
            garbled_place all e (subst IsGarbled (sym whole) (garbled [] (drop 11 garbage) own))
      ]
    ] refl

advanced_advanced : (n k : ℕ) (a : Answer) → advanced n (advanced k a) ≡ advanced (n + k) a
advanced_advanced n k waits = refl
advanced_advanced n k exceeds = refl
advanced_advanced n k (gives j frame) = let e : n + (k + j) ≡ n + k + j = omega arith in ap (λ (m : ℕ). gives m frame) e

-- the answer at a place that is passed over
pub passed_answer : (bytes : List ℕ) → IsPassed bytes → (rest : Answer) → answer_at (place_at bytes) bytes rest ≡ advanced 1 rest
unfolding place_at
passed_answer bytes passed rest = ap (λ p. answer_at p bytes rest) passed

less_garbage : (byte : ℕ) (bytes rest : List ℕ) → IsGarbage (byte ∷ bytes) rest → IsGarbage bytes rest
less_garbage byte bytes rest garbled before after e = garbled (byte ∷ before) after (ap (λ (x : List ℕ). byte ∷ x) e)

-- what comes behind garbage comes as if it stood alone
pub behind_garbage : (garbage rest : List ℕ) → IsGarbage garbage (56 ∷ rest) → next_from (garbage ++ 56 ∷ rest) ≡ advanced (length garbage) (next_from (56 ∷ rest))
behind_garbage [] rest garbled = skips_none [] (56 ∷ rest)
behind_garbage (byte ∷ bytes) rest garbled =
    let more : next_from (bytes ++ 56 ∷ rest) ≡ advanced (length bytes) (next_from (56 ∷ rest)) = behind_garbage bytes rest (less_garbage byte bytes (56 ∷ rest) garbled) in
    let here : IsPassed (byte ∷ (bytes ++ 56 ∷ rest)) = passed_place (byte ∷ bytes) rest (omega arith) garbled in
    let count : 1 + length bytes ≡ suc (length bytes) = omega arith in
    passed_answer (byte ∷ (bytes ++ 56 ∷ rest)) here (next_from (bytes ++ 56 ∷ rest))
    ∙ ap (advanced 1) more ∙ advanced_advanced 1 (length bytes) (next_from (56 ∷ rest)) ∙ ap (λ (n : ℕ). advanced n (next_from (56 ∷ rest))) count

-- ---- what is too long was declared

-- BeginString and BodyLength of what is too long
pub record IsLongStart (bytes : List ℕ) : Type 0 where
  pub size : ℕ
  pub declares : Declares bytes size
  pub above : MAX_FRAME_BYTES < size

-- a place is passed over, or it is not too long, or it is and declares so
abbrev pub Limits : List ℕ → Type 0
Limits bytes = IsPassed bytes ⊎ (((rest : Answer) → answer_at (place_at bytes) bytes rest ≡ exceeds → ⊥) ⊎ IsLongStart bytes)

declared_limits : (bytes : List ℕ) (size : ℕ) → Declares bytes size → Limits bytes
unfolding place_at judged
declared_limits bytes size d =
    let many = 21 + length d.digits + d.content in
    let some : ltb 0 (length d.digits) ≡ true = positive (length d.digits) d.some in
    elim (ltb MAX_FRAME_BYTES many) as (λ b. (ltb MAX_FRAME_BYTES many ≡ b) → Limits bytes) [
      | true ↦ λ long. inr (inr (record { size = size; declares = d; above = omega (arith, size_is bytes size d, ltb-true MAX_FRAME_BYTES many long) }))
      | false ↦ λ small. elim (ltb (length bytes) many) as (λ b. (ltb (length bytes) many ≡ b) → Limits bytes) [
        | true ↦ λ few. inr (inl (λ rest h. let x = sym (ap (λ p. answer_at p bytes rest) (declared_place bytes size d)) ∙ h in let y : waits ≡ exceeds = rw (some, small, few) at x in cc))
        | false ↦ λ whole. elim (is_frame (14 + length d.digits) d.content (take many bytes)) as (λ b. (is_frame (14 + length d.digits) d.content (take many bytes) ≡ b) → Limits bytes) [
          | true ↦ λ e. inr (inl (λ rest h. let x = sym (ap (λ p. answer_at p bytes rest) (declared_place bytes size d)) ∙ h in let y : gives 0 (take many bytes) ≡ exceeds = rw (some, small, whole, e) at x in cc))
          | false ↦ λ e. inl (declared_place bytes size d ∙ rw (some, small, whole, e) refl)
        ] refl
      ] refl
    ] refl

begun_limits : (bytes : List ℕ) → begins bytes ≡ true → Limits bytes
unfolding place_at judged
begun_limits bytes opens =
    elim (lengths (drop 11 bytes)) [
      | inl l ↦ declared_limits bytes (length (header l.ds) + l.worth + 7) (declares bytes (drop 11 bytes) (begins_with bytes opens) l)
      | inr (inl g) ↦ inr (inl (λ rest h. let e = g.is in let y : waits ≡ exceeds = rw (opens, e) at h in cc))
      | inr (inr e) ↦ inl (rw (opens, e) refl)
    ]

pub limits : (bytes : List ℕ) → Limits bytes
limits bytes =
    elim (begins bytes) as (λ b. (begins bytes ≡ b) → Limits bytes) [
      | true ↦ λ opens. begun_limits bytes opens
      | false ↦ λ other. inl (passed_by bytes other)
    ] refl
