-- Tags with the values that were received: how they are spelled, and how they are found again.
use Rattle.std.proofs.Common.{◌≡◌, ℕ, zero, suc, ◌+◌, ◌*◌, ◌^◌, ◌<◌, ◌≤◌, not, Bool, true, false, cond, eqb, leb, ltb, List, [], ◌∷◌, ◌++◌, length, get_or, Option, Some, None, Ok, refl, sym, ◌∙◌, ap, arith, length-append}
use Rattle.std.specs.Prelude.{decimal}
use Rattle.std.specs.Option.{option_map}
use Rattle.std.specs.List.{find, list_all, list_any}
use Rattle.std.proofs.lemmas.Bool.{and_parts, and_from, ltb-true, le-leb}
use Rattle.std.proofs.lemmas.Bool.Decides.{nat_tests}
use Rattle.std.proofs.lemmas.Fmt.{digits_decimal, length-decimal-le}
use Rattle.std.proofs.lemmas.List.Folds.{list_all-append}
use Rattle.fix_fields.specs.declared.field.Field.{Field}
use Rattle.fix_fields.specs.Fields.{is_end, is_length, data_behind, split}
use Rattle.fix_fields.specs.FieldLaws.{split_only}
use Rattle.fix_fields.specs.Spelling.{spelling, spellings, AreFields}
use Rattle.fix_fields.specs.Tags.{numerals}
use Rattle.fix_frames.specs.FramedLaws.{field-spelling}
use Rattle.fix_write.specs.Fields.{field}
use Rattle.fix_write.specs.Lengths.{length-field}
use Rattle.exec_reports.specs.Bodies.{field_if}
use Rattle.script_text.specs.Escaping.{escape_text, text_of}
use Rattle.script_text.proofs.Texts.{text_back}
use Rattle.session_core.specs.Lookup.{value_of}
use Rattle.venue_words.specs.declared.limits.TheConstants.{MAX_FRAME_BYTES}
use Rattle.listing_reader.specs.Fitting.{fits_code, fits_text}
use Rattle.listing_reader.specs.Told.{fields_of, told_fields}
use Rattle.listing_reader.proofs.Amounts.{IsValue, digits_fit}

-- a tag and its value, where that was received
pub record Entry : Type 0 where
  pub tag : ℕ
  pub value : Option (List ℕ)

abbrev pub entry : ℕ → Option (List ℕ) → Entry
entry tag value = record { tag = tag; value = value }

abbrev pub spelled : List Entry → List ℕ
spelled [] = []
spelled (e ∷ es) = field_if e.tag e.value ++ spelled es

abbrev pub fields_at : ℕ → Option (List ℕ) → List Field
fields_at tag None = []
fields_at tag (Some value) = record { tag = tag; bytes = value } ∷ []

abbrev pub as_fields : List Entry → List Field
as_fields [] = []
as_fields (e ∷ es) = fields_at e.tag e.value ++ as_fields es

-- ---- finding a value

abbrev pub or_else : Option (List ℕ) → Option (List ℕ) → Option (List ℕ)
or_else None other = other
or_else (Some value) other = Some value

abbrev pub found : ℕ → List Entry → Option (List ℕ)
found tag [] = None
found tag (e ∷ es) = cond (eqb e.tag tag) (or_else e.value (found tag es)) (found tag es)

pub or_none : (value : Option (List ℕ)) → or_else value None ≡ value
or_none None = refl
or_none (Some value) = refl

either : (b : Bool) (x : Option (List ℕ)) → cond b x x ≡ x
either true x = refl
either false x = refl

first_found : (b : Bool) (f : Field) (rest : Option Field) → option_map (λ field. field.bytes) (cond b (Some f) rest) ≡ cond b (Some f.bytes) (option_map (λ field. field.bytes) rest)
first_found true f rest = refl
first_found false f rest = refl

found_first : (tag at : ℕ) (value : Option (List ℕ)) (es : List Entry) → value_of tag (as_fields es) ≡ found tag es
    → value_of tag (fields_at at value ++ as_fields es) ≡ cond (eqb at tag) (or_else value (found tag es)) (found tag es)
unfolding value_of
found_first tag at None es more = more ∙ sym (either (eqb at tag) (found tag es))
found_first tag at (Some value) es more =
    first_found (eqb at tag) (record { tag = at; bytes = value }) (find (λ field. eqb field.tag tag) (as_fields es))
    ∙ ap (λ (x : Option (List ℕ)). cond (eqb at tag) (Some value) x) more

pub value_found : (tag : ℕ) (es : List Entry) → value_of tag (as_fields es) ≡ found tag es
unfolding value_of
value_found tag [] = refl
value_found tag (e ∷ es) = found_first tag e.tag e.value es (value_found tag es)

-- ---- spelling them

-- a tag of two to five digits that gives no length, and values that a line can hold
abbrev pub IsTag : ℕ → Type 0
IsTag tag = (0 < tag) × (tag < 100000) × (is_length tag ≡ false)

abbrev pub IsValueIf : Option (List ℕ) → Type 0
IsValueIf None = Unit {0}
IsValueIf (Some value) = IsValue value

abbrev pub AreGood : List Entry → Type 0
AreGood [] = Unit {0}
AreGood (e ∷ es) = IsTag e.tag × IsValueIf e.value × AreGood es

no_end : (value : List ℕ) → fits_text value ≡ true → list_any is_end value ≡ false
no_end [] h = refl
no_end (b ∷ value) h =
    let parts = and_parts (fits_code b) (fits_text value) h in
    let here : is_end b ≡ false = one_end b parts.0 in
    rw here (no_end value parts.1)
  where
    one_end : (b : ℕ) → fits_code b ≡ true → is_end b ≡ false
    one_end b h = grind (arith, nat_tests)

spelled_first : (tag : ℕ) (value : Option (List ℕ)) (es : List Entry) → spelled es ≡ spellings (as_fields es)
    → field_if tag value ++ spelled es ≡ spellings (fields_at tag value ++ as_fields es)
spelled_first tag None es more = more
spelled_first tag (Some value) es more =
    ap (λ (x : List ℕ). x ++ spelled es) (field-spelling tag value) ∙ ap (λ (x : List ℕ). spelling (record { tag = tag; bytes = value }) ++ x) more

pub spelled_is : (es : List Entry) → spelled es ≡ spellings (as_fields es)
spelled_is [] = refl
spelled_is (e ∷ es) = spelled_first e.tag e.value es (spelled_is es)

fields_first : (tag : ℕ) (value : Option (List ℕ)) (es : List Entry) → IsTag tag → IsValueIf value → AreFields None (as_fields es)
    → AreFields None (fields_at tag value ++ as_fields es)
unfolding data_behind
fields_first tag None es t v more = more
fields_first tag (Some value) es t v more =
    let free : is_length tag ≡ false = t.2 in (
      record { low = t.0; high = t.1; value = no_end value v.fits; number = λ e. absurd (cc) },
      rw free more,
    )

pub good_fields : (es : List Entry) → AreGood es → AreFields None (as_fields es)
good_fields [] h = tt
good_fields (e ∷ es) h = fields_first e.tag e.value es h.0 h.1 (good_fields es h.2)

-- ---- how long they are, and of which bytes

abbrev pub is_byte : ℕ → Bool
is_byte b = ltb b 256

abbrev pub are_bytes : List ℕ → Bool
are_bytes text = list_all is_byte text

value_bytes : (text : List ℕ) → fits_text text ≡ true → are_bytes text ≡ true
value_bytes [] h = refl
value_bytes (b ∷ text) h =
    let parts = and_parts (fits_code b) (fits_text text) h in
    let here = and_parts (ltb b 256) (not (is_end b)) parts.0 in
    and_from (ltb b 256) (are_bytes text) here.0 (value_bytes text parts.1)

both_bytes : (a b : List ℕ) → are_bytes a ≡ true → are_bytes b ≡ true → are_bytes (a ++ b) ≡ true
both_bytes a b h k = list_all-append is_byte a b ∙ and_from (list_all is_byte a) (list_all is_byte b) h k

field_bytes : (tag : ℕ) (value : List ℕ) → IsTag tag → IsValue value → are_bytes (field tag value) ≡ true
unfolding field
field_bytes tag value t v =
    let room : tag < 2 ^ 64 = omega (arith, t.1) in
    let digits = value_bytes (decimal tag) (digits_fit (decimal tag) (digits_decimal numerals tag room)) in
    both_bytes ((decimal tag ++ 61 ∷ []) ++ value) (1 ∷ []) (both_bytes (decimal tag ++ 61 ∷ []) value (both_bytes (decimal tag) (61 ∷ []) digits refl) (value_bytes value v.fits)) refl

field_short : (tag : ℕ) (value : List ℕ) → IsTag tag → IsValue value → length (field tag value) ≤ 71
field_short tag value t v =
    let room : tag < 2 ^ 64 = omega (arith, t.1) in
    let few : length (decimal tag) ≤ 5 = length-decimal-le 5 tag (omega arith) (omega (arith, t.1)) room in
    omega (arith, length-field tag value, v.short)

bytes_first : (tag : ℕ) (value : Option (List ℕ)) (rest : List ℕ) → IsTag tag → IsValueIf value → are_bytes rest ≡ true → are_bytes (field_if tag value ++ rest) ≡ true
bytes_first tag None rest t v more = more
bytes_first tag (Some value) rest t v more = both_bytes (field tag value) rest (field_bytes tag value t v) more

pub spelled_bytes : (es : List Entry) → AreGood es → are_bytes (spelled es) ≡ true
spelled_bytes [] h = refl
spelled_bytes (e ∷ es) h = bytes_first e.tag e.value (spelled es) h.0 h.1 (spelled_bytes es h.2)

short_first : (tag : ℕ) (value : Option (List ℕ)) (rest : List ℕ) → IsTag tag → IsValueIf value → length (field_if tag value ++ rest) ≤ 71 + length rest
short_first tag None rest t v = omega arith
short_first tag (Some value) rest t v = omega (arith, length-append (field tag value) rest, field_short tag value t v)

spelled_short : (es : List Entry) → AreGood es → length (spelled es) ≤ 71 * length es
spelled_short [] h = omega arith
spelled_short (e ∷ es) h = omega (arith, short_first e.tag e.value (spelled es) h.0 h.1, spelled_short es h.2)

byte_at : (text : List ℕ) → are_bytes text ≡ true → (k : ℕ) → get_or text k 0 < 256
byte_at [] h k = omega arith
byte_at (b ∷ text) h zero = ltb-true _ _ (and_parts (ltb b 256) (are_bytes text) h).0
byte_at (b ∷ text) h (suc k) = byte_at text (and_parts (ltb b 256) (are_bytes text) h).1 k

-- ---- the fields that are told

-- entries that are spelled are told as their fields
pub fields_written : (es : List Entry) → AreGood es → length es ≤ 20 → told_fields (escape_text (spelled es)) ≡ as_fields es
unfolding fields_of
fields_written es good few =
    let read : text_of (escape_text (spelled es)) ≡ Some (spelled es) = text_back (spelled es) (byte_at (spelled es) (spelled_bytes es good)) in
    let short : leb (length (spelled es)) MAX_FRAME_BYTES ≡ true = le-leb _ _ (omega (arith, spelled_short es good)) in
    let whole : split (spelled es) ≡ Ok (as_fields es) = ap split (spelled_is es) ∙ split_only (as_fields es) (good_fields es good) in
    rw (read, short, whole) refl
