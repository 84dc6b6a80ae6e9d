-- What a parse of the words comes to.
use Rattle.std.proofs.Common.{◌≡◌, ℕ, ◌≤◌, Bool, true, false, List, [], ◌∷◌, length, Option, Some, None, MatchOption, refl, subst, ap, sym, ◌∙◌, arith, codes, map, unwrap_or, String, string_bytes, option_map, find, nat_lt, is_some, slice_get, ◌&&◌}
use Rattle.std.proofs.lemmas.Bool.Decides.{nat_tests}
use Rattle.std.proofs.lemmas.List.{length-map}
use Rattle.std.proofs.lemmas.Str.{IsUtf8-string_bytes, is_utf8-from_IsUtf8}
use Rattle.std.specs.declared.alloc.Global.{Global}
use Rattle.std.specs.Prelude.{if◌then◌else◌}
use Rattle.std.specs.Str.{bytes_eq, chars, is_utf8, encode_utf8_all}
use Rattle.std.specs.Str.{all_scalars}
use Rattle.clap.specs.Facts.{Entry}
use Rattle.clap.specs.Matches.{raw_values, matched_of}
use Rattle.clap.specs.Simple.{built, matches_of, entered, filled, with_index}
use Rattle.clap.specs.Walk.{Walk, Waiting, all_of, finished, row_of, rows_of, settled, values_or_missing}
use Rattle.clap.specs.Faults.{fault_of, settle_fault, defaults_fault, entered_fault, check_fault, values_fault}
use Rattle.clap.specs.Kinds.{Kinds, values_kinds, or_else, range_kinds}
use Rattle.clap.specs.declared.builder.value_parser.ValueParser.TheVariants as vp
use Rattle.clap.specs.declared.parser.matches.Found.{Found}
use Rattle.program_words.specs.Parser.{parser, word_rule}
use Rattle.program_words.specs.Words.{remaining, put_before, is_end_mark, is_flag, texts}
use Rattle.program_words.proofs.Steps.{Texts, standing, waits, top, first_of}
use Rattle.program_words.proofs.Walks.{AllFirst, HasFirst, Reads, faults, ends, joined, reads}

-- ---- what is kept of a match

pick : (t : Bool) (id : List ℕ) (e : Entry) (es : List Entry) → bytes_eq e.0.now id ≡ t
    → option_map (λ r. r.values) (find (λ r. bytes_eq r.id id) (map row_of es))
    ≡ option_map raw_values (option_map (λ x. x.1) (find (λ x. bytes_eq x.0.now id) es))
    → option_map (λ r. r.values) (find (λ r. bytes_eq r.id id) (map row_of (e ∷ es)))
    ≡ option_map raw_values (option_map (λ x. x.1) (find (λ x. bytes_eq x.0.now id) (e ∷ es)))
pick true id e es is ih = simp is refl
pick false id e es is ih = simp is ih

raw_of_rows : (id : List ℕ) (es : List Entry) → option_map (λ r. r.values) (find (λ r. bytes_eq r.id id) (map row_of es))
    ≡ option_map raw_values (option_map (λ x. x.1) (find (λ x. bytes_eq x.0.now id) es))
raw_of_rows id [] = refl
raw_of_rows id (e ∷ es) = pick (bytes_eq e.0.now id) id e es refl (raw_of_rows id es)

pub raw_all : (id : List ℕ) (f : Found) → all_of id (rows_of f) ≡ option_map raw_values (matched_of f id)
raw_all id f = raw_of_rows id f.entries.items

-- ---- any text is a value

any_values : (vs : Texts) → values_kinds false vp.String vs ≡ []
any_values [] = refl
any_values (v ∷ vs) = any_values vs

-- ---- the end of the walk

unfoldable pub Parses : Texts → Option Texts → Type 0
Parses words left = MatchOption left (fault_of parser words ≡ [] → ⊥)
    (λ more. (fault_of parser words ≡ []) × (unwrap_or (all_of (codes "word") (matches_of parser words)) [] ≡ more))

or_else_first : (a b : Kinds) → or_else a b ≡ [] → a ≡ []
or_else_first [] b e = refl
or_else_first (k ∷ ks) b e = cc

-- what stands at the end of the walk
unfoldable pub left_of : Walk → Kinds
left_of w = or_else (entered_fault (built parser) w.stopped) (or_else (settle_fault top.rules false w.held)
    (or_else (defaults_fault (settled top.rules w.held).rows top.rules)
    (check_fault top (finished top.rules w.held) (is_some (entered (built parser) w.stopped)))))

fault_is : (words : Texts) → fault_of parser words
    ≡ or_else (faults (standing None (waits true) false) words) (left_of (ends (standing None (waits true) false) words))
unfolding faults ends standing waits left_of
fault_is words = refl

matches_are : (words : Texts) → matches_of parser words ≡ finished top.rules (ends (standing None (waits true) false) words).held
unfolding ends standing waits
matches_are words = refl

range_fits : (n : ℕ) → n ≤ 18446744073709551615 → range_kinds 0 18446744073709551615 n ≡ []
range_fits n few =
    let above : nat_lt 18446744073709551615 n ≡ false = grind (arith, nat_tests) in
    let below : nat_lt n 0 ≡ false = grind (arith, nat_tests) in
    simp (above, below)

pending_fault : (kept : Texts) (w : Waiting) (t : Bool) → left_of (standing (Some kept) w t)
    ≡ or_else (or_else (range_kinds 0 18446744073709551615 (length kept)) (values_fault (with_index 1 (filled word_rule)) (values_or_missing (with_index 1 (filled word_rule)) kept))) []
unfolding standing left_of defaults_fault
pending_fault kept w t = refl

ends_well : (more : Texts) (w : Waiting) (t : Bool) → length more ≤ 18446744073709551615
    → (left_of (standing (joined None more) w t) ≡ [])
    × (unwrap_or (all_of (codes "word") (finished top.rules (standing (joined None more) w t).held)) [] ≡ more)
unfolding standing joined left_of defaults_fault
ends_well [] w t few = (refl, refl)
ends_well (x ∷ xs) w t few =
    (pending_fault (x ∷ xs) w t ∙ ap (λ k. or_else (or_else k (values_kinds false vp.String (x ∷ xs))) []) (range_fits (length (x ∷ xs)) few) ∙ ap (λ k. or_else k []) (any_values (x ∷ xs)), refl)

close : (words : Texts) (left : Option Texts) → ((more : Texts) → left ≡ Some more → length more ≤ 18446744073709551615)
    → Reads None true words left → Parses words left
unfolding Reads Parses
close words None few h = λ none. h (or_else_first _ _ (sym (fault_is words) ∙ none))
close words (Some more) few h =
    let e = ends_well more h.waiting h.trailing (few more refl) in (
      fault_is words ∙ ap (λ k. or_else k (left_of (ends (standing None (waits true) false) words))) h.none ∙ ap left_of h.end ∙ e.0,
      ap (λ rows. unwrap_or (all_of (codes "word") rows) []) (matches_are words)
          ∙ ap (λ v. unwrap_or (all_of (codes "word") (finished top.rules v.held)) []) h.end ∙ e.1,
    )

-- ---- texts are characters

some_first : (cs bytes : List ℕ) (c : ℕ) → (all_scalars (45 ∷ cs) && bytes_eq (encode_utf8_all (45 ∷ cs)) (45 ∷ c ∷ bytes)) ≡ true → (x : ℕ) × (slice_get cs 0 ≡ Some x)
unfolding lib.Utf8.encode
some_first [] bytes c e = let bad : false ≡ true = e in absurd (cc)
some_first (x ∷ cs) bytes c e = (x, refl)

dash_first : (c : ℕ) (bytes : List ℕ) → is_utf8 (45 ∷ c ∷ bytes) ≡ true → (x : ℕ) × (slice_get (chars (c ∷ bytes)) 0 ≡ Some x)
unfolding is_utf8 chars
dash_first c bytes e = some_first (chars (c ∷ bytes)) bytes c e

has_first : (word : List ℕ) → is_utf8 word ≡ true → HasFirst word
unfolding HasFirst first_of
has_first word valid = λ c bytes is. dash_first c bytes (subst (λ (w : List ℕ). is_utf8 w ≡ true) is valid)

all_first : (words : List (String Global)) → AllFirst (texts words)
unfolding AllFirst
all_first [] = tt
all_first (word ∷ words) = (has_first (string_bytes word) (is_utf8-from_IsUtf8 (string_bytes word) (IsUtf8-string_bytes word)), all_first words)

-- no more words remain than there are
few_kept : (word : List ℕ) (words more : Texts) (left : Option Texts) → put_before word left ≡ Some more
    → ((kept : Texts) → left ≡ Some kept → length kept ≤ length words) → length more ≤ length (word ∷ words)
few_kept word words more None e h = absurd (cc)
few_kept word words more (Some rest) e h =
    let is : word ∷ rest ≡ more = cc in
    let fits = h rest refl in
    subst (λ (xs : Texts). length xs ≤ length (word ∷ words)) is (omega (arith, fits))

few_step : (mark flag : Bool) (word : List ℕ) (words more : Texts) (left : Option Texts)
    → (if mark then Some words else if flag then None else put_before word left) ≡ Some more
    → ((kept : Texts) → left ≡ Some kept → length kept ≤ length words) → length more ≤ length (word ∷ words)
few_step true flag word words more left e h =
    let is : words ≡ more = cc in
    subst (λ (xs : Texts). length xs ≤ length (word ∷ words)) is (omega arith)
few_step false true word words more left e h = absurd (cc)
few_step false false word words more left e h = few_kept word words more left e h

few_left : (words more : Texts) → remaining words ≡ Some more → length more ≤ length words
few_left [] more e =
    let is : [] ≡ more = cc in
    subst (λ (xs : Texts). length xs ≤ 0) is (omega arith)
few_left (word ∷ words) more e = few_step (is_end_mark word) (is_flag word) word words more (remaining words) e (few_left words)

-- the words remain exactly where the parse has no fault, and are what it keeps
pub parses : (words : List (String Global)) → length words ≤ 18446744073709551615 → Parses (texts words) (remaining (texts words))
parses words few = close (texts words) (remaining (texts words))
    (λ more e. let fits = few_left (texts words) more e in let same : length (texts words) ≡ length words = length-map words (λ word. string_bytes word) in omega (arith, few))
    (reads None true (texts words) (all_first words))

-- ---- both ends of a parse

taken_by : (words : Texts) (left : Option Texts) → Parses words left → fault_of parser words ≡ []
    → left ≡ Some (unwrap_or (all_of (codes "word") (matches_of parser words)) [])
unfolding Parses
taken_by words None h none = absurd (h none)
taken_by words (Some more) h none = ap (λ (xs : Texts). Some xs) (sym h.1)

refused_by : (words : Texts) (left : Option Texts) → Parses words left → (fault_of parser words ≡ [] → ⊥) → left ≡ None
unfolding Parses
refused_by words None h bad = refl
refused_by words (Some more) h bad = absurd (bad h.0)

pub taken_words : (words : List (String Global)) → length words ≤ 18446744073709551615 → fault_of parser (texts words) ≡ []
    → remaining (texts words) ≡ Some (unwrap_or (all_of (codes "word") (matches_of parser (texts words))) [])
taken_words words few none = taken_by (texts words) (remaining (texts words)) (parses words few) none

pub refused_words : (words : List (String Global)) → length words ≤ 18446744073709551615 → (fault_of parser (texts words) ≡ [] → ⊥)
    → remaining (texts words) ≡ None
refused_words words few bad = refused_by (texts words) (remaining (texts words)) (parses words few) bad
