-- Where a look for a tag among the fields of a message begins.
use Rattle.std.proofs.Common.{◌≡◌, ℕ, zero, suc, ◌+◌, ◌-◌, ◌<◌, ◌≤◌, ◌==◌, ◌%◌, take, drop, subst, cond, Bool, true, false, List, [], ◌∷◌, ◌++◌, length, get_or, set, Option, Some, None, inl, inr, refl, sym, ◌∙◌, ap, arith, min, replicate}
use Rattle.std.specs.Prelude.{option_map}
use Rattle.std.specs.List.{find, slice_range}
use Rattle.std.proofs.lemmas.Bool.{cases_eq, cases_lt}
use Rattle.std.proofs.lemmas.Bool.Decides.{nat_tests}
use Rattle.std.proofs.Math.Seq.{take-add}
use Rattle.std.proofs.lemmas.List.{take_more, take_all, take-append-drop, get_or-set_same, get_or-set_other}
use Rattle.fix_fields.specs.declared.field.Field.{Field}
use Rattle.session_core.specs.Lookup.{value_of}
use Rattle.session_core.specs.Starts.{start_of, AreInTime}

-- ---- values behind fields that have none

passed : (test : Bool) (field : Field) (found : Option Field) → test ≡ false → option_map (λ field. field.bytes) (cond test (Some field) found) ≡ option_map (λ field. field.bytes) found
passed test field found f = rw f refl

missed : (test : Bool) (field : Field) (found : Option Field) → option_map (λ field. field.bytes) (cond test (Some field) found) ≡ None → test ≡ false
missed true field found e = absurd (cc)
missed false field found e = refl

-- fields that lack a tag are passed over
pub value_behind : (tag : ℕ) (before rest : List Field) → value_of tag before ≡ None → value_of tag (before ++ rest) ≡ value_of tag rest
unfolding value_of
value_behind tag [] rest none = refl
value_behind tag (field ∷ before) rest none =
    let other = missed (field.tag == tag) field (find (λ other. other.tag == tag) before) none in
    passed (field.tag == tag) field (find (λ other. other.tag == tag) (before ++ rest)) other
    ∙ value_behind tag before rest (sym (passed (field.tag == tag) field (find (λ other. other.tag == tag) before) other) ∙ none)

-- the value stands behind the first fields, where they lack it
pub value_from : (tag count : ℕ) (fields : List Field) → value_of tag (take count fields) ≡ None → value_of tag (drop count fields) ≡ value_of tag fields
value_from tag count fields none =
    sym (value_behind tag (take count fields) (drop count fields) none) ∙ ap (value_of tag) (take-append-drop count fields)

-- a field of another tag
alone : (tag : ℕ) (field : Field) → (field.tag == tag) ≡ false → value_of tag (field ∷ []) ≡ None
unfolding value_of
alone tag field other = passed (field.tag == tag) field None other

-- ---- one more field

-- a field of another tag adds no value
pub none_more : (tag place : ℕ) (fields : List Field) (field : Field) → place < length fields → get_or fields place field ≡ field → (field.tag == tag) ≡ false → value_of tag (take place fields) ≡ None → value_of tag (take (place + 1) fields) ≡ None
none_more tag place fields field l e other none =
    ap (value_of tag) (take_more fields place field l ∙ ap (λ (x : Field). take place fields ++ x ∷ []) e)
    ∙ value_behind tag (take place fields) (field ∷ []) none
    ∙ alone tag field other

-- nothing has a value before the first field
pub none_at_first : (tag count : ℕ) (fields : List Field) → count ≤ 0 → value_of tag (take count fields) ≡ None
unfolding value_of
none_at_first tag zero fields l = refl
none_at_first tag (suc count) fields l = absurd (omega arith)

-- the value stands between two places, where no field before the first one has the tag
pub value_between : (tag first last : ℕ) (fields : List Field) → first ≤ last → value_of tag (take first fields) ≡ None → value_of tag (slice_range fields first last) ≡ value_of tag (take last fields)
value_between tag first last fields l none =
    let whole : first + (last - first) ≡ last = omega arith in
    sym (value_behind tag (take first fields) (slice_range fields first last) none)
    ∙ ap (value_of tag) (sym (take-add first (last - first) fields))
    ∙ ap (λ (n : ℕ). value_of tag (take n fields)) whole

-- places at first
pub fit_at_first : (n k : ℕ) → get_or (replicate n 255) k 0 < 256
fit_at_first zero k = omega arith
fit_at_first (suc n) zero = omega arith
fit_at_first (suc n) (suc k) = fit_at_first n k

-- ---- one more field was noted

-- where a place comes down, none goes up
pub lower : (starts : List ℕ) (r next k : ℕ) → r < length starts → next ≤ get_or starts r 0 → get_or (set starts r next) k 0 ≤ get_or starts k 0
lower starts r next k l down = elim (cases_eq k r) [
  | inl same ↦
      let own = get_or-set_same starts r next 0 l in
      subst (λ (n : ℕ). get_or (set starts r next) n 0 ≤ get_or starts n 0) (sym same) (omega arith)
  | inr other ↦ omega (arith, get_or-set_other starts r k next 0 other)
]

-- a tag whose place is past another's, which was noted, is not that one
apart : (starts : List ℕ) (noted tag next : ℕ) → noted % 64 < length starts → next < start_of (set starts (noted % 64) next) tag → (noted == tag) ≡ false
apart starts noted tag next l past = elim (cases_eq noted tag) [
  | inl same ↦
      let own = get_or-set_same starts (noted % 64) next 0 l in
      absurd (omega (arith, subst (λ (t : ℕ). next < get_or (set starts (noted % 64) next) (t % 64) 0) (sym same) past))
  | inr other ↦ grind (arith, nat_tests)
]

-- no field that was noted stands before the place of its remainder
pub in_time_more : (starts : List ℕ) (next place : ℕ) (fields : List Field) (field : Field) → length starts ≡ 64 → place < length fields → get_or fields place field ≡ field
    → next ≤ get_or starts (field.tag % 64) 0 → next ≤ place
    → ((tag count : ℕ) → count ≤ start_of starts tag → count ≤ place → value_of tag (take count fields) ≡ None)
    → (tag count : ℕ) → count ≤ start_of (set starts (field.tag % 64) next) tag → count ≤ place + 1 → value_of tag (take count fields) ≡ None
in_time_more starts next place fields field long l e down at_most so_far tag count before more =
    let room : field.tag % 64 < length starts = omega arith in
    let falls = lower starts (field.tag % 64) next (tag % 64) room down in
    elim (cases_lt place count) [
      | inr within ↦ so_far tag count (omega arith) within
      | inl beyond ↦
          let last : place + 1 ≡ count = omega arith in
          let other = apart starts field.tag tag next room (omega arith) in
          subst (λ (n : ℕ). value_of tag (take n fields) ≡ None) last
          (none_more tag place fields field l e other (so_far tag place (omega arith) (omega arith)))
    ]

-- places of less than 256 are in time where the fields before the first 255 were noted
pub in_time_all : (starts : List ℕ) (last : ℕ) (fields : List Field) → last ≡ min (length fields) 255 → ((k : ℕ) → get_or starts k 0 < 256)
    → ((tag count : ℕ) → count ≤ start_of starts tag → count ≤ last → value_of tag (take count fields) ≡ None)
    → AreInTime starts fields
in_time_all starts last fields e fit so_far tag count before =
    elim (cases_lt last count) [
      | inr within ↦ so_far tag count before within
      | inl beyond ↦
          let small = fit (tag % 64) in
          let every : length fields ≤ last = omega arith in
          let past : length fields ≤ count = omega arith in
          ap (value_of tag) (take_all count fields past ∙ sym (take_all last fields every)) ∙ so_far tag last (omega arith) (omega arith)
    ]
