-- Each line of a header keeps its config within the limits of the venue.
use Rattle.std.proofs.Common.{◌≡◌, ℕ, ◌+◌, ◌-◌, ◌*◌, ◌≤◌, ◌<◌, ◌==◌, ◌||◌, not, nat_le, nat_lt, Bool, true, false, cond, List, [], ◌∷◌, ◌++◌, length, length-append, Option, Some, None, Result, Ok, Err, IfOk, OnOk, refl, arith, inl, inr, sum, subst}
use Rattle.std.specs.Prelude.{if◌then◌else◌, codes, ℤ, slice_index}
use Rattle.std.specs.List.{IsDistinct, list_any, list_all, fold}
use Rattle.std.specs.Option.{option_and_then}
use Rattle.std.specs.Str.{bytes_eq}
use Rattle.std.proofs.lemmas.Bool.Decides.{nat_tests}
use Rattle.venue_words.specs.ListLaws.{all_append}
use Rattle.venue_words.specs.Conditions.{AreNames, IsEventLimit, IsTick, IsConfig}
use Rattle.venue_words.specs.declared.limits.TheConstants.{MAX_EVENTS, MAX_LINE_BYTES, MAX_NAME_BYTES}
use Rattle.quote_intake.specs.Price.{digits_of, number_of, is_digit}
use Rattle.quote_intake.specs.Words.{words_of}
use Rattle.script_text.specs.declared.header.Header.{Header}
use Rattle.script_text.specs.declared.fault.LineCause.{LineCause}
use Rattle.script_text.specs.declared.fault.LineCause.TheVariants.{BadName, DoubleName}
use Rattle.script_text.specs.declared.fault.LineFault.{LineFault}
use Rattle.script_text.specs.Meets.{Meets}
use Rattle.script_text.specs.Words.{is_name, limit_of, tick_of, script_moment}
use Rattle.script_text.specs.Header.{Step, name_cause, unless, member_line, market_line, symbol_line, symbol_fits, symbol_numbers, symbol_words, begins, begin_line, one_word, keyed, keyed_else, keyed_line, first_line, header_line, with_header, blank}

both_false : (a b : Bool) → (a || b) ≡ false → (a ≡ false) × (b ≡ false)
both_false true b e = cc
both_false false b e = (refl, e)

-- ---- names

distinct_more : {K : Type 0} (same : K → K → Bool) (keys : List K) (key : K) → IsDistinct same keys
    → list_any (λ old. same old key) keys ≡ false → IsDistinct same (keys ++ key ∷ [])
unfolding IsDistinct
distinct_more same [] key d e = (tt, tt)
distinct_more same (old ∷ keys) key d e =
    let parts = both_false (same old key) (list_any (λ old. same old key) keys) e in
    (all_append (λ other. same old other ≡ false) keys (key ∷ []) d.0 (parts.0, tt), distinct_more same keys key d.1 parts.1)

lengths_of : (name : List ℕ) → is_name name ≡ true → (1 ≤ length name) × (length name ≤ MAX_NAME_BYTES)
unfolding is_name
lengths_of name e = (grind (arith, nat_tests), grind (arith, nat_tests))

fits_names : (proper known : Bool) (names : List (List ℕ)) (name : List ℕ)
    → cond (not proper) (Some BadName) (cond known (Some DoubleName) None) ≡ None
    → (proper ≡ true) × (known ≡ false)
fits_names true false names name e = (refl, refl)
fits_names true true names name e = cc
fits_names false known names name e = cc

names_more : (names : List (List ℕ)) (name : List ℕ) → AreNames names → name_cause names name ≡ None
    → AreNames (names ++ name ∷ [])
unfolding name_cause
names_more names name a e =
    let parts = fits_names (is_name name) (list_any (λ old. bytes_eq old name) names) names name e in
    record {
      lengths = all_append _ names (name ∷ []) a.lengths (lengths_of name parts.0, tt);
      distinct = distinct_more bytes_eq names name a.distinct parts.1;
    }

-- ---- limits and ticks

grows : (digits : List ℕ) (n : ℕ) → 1 ≤ n → 1 ≤ fold (λ number digit. number * 10 + (digit - 48)) n digits
grows [] n h = h
grows (digit ∷ digits) n h = grows digits (n * 10 + (digit - 48)) (omega arith)

first_counts : (digits : List ℕ) → 0 < length digits → (slice_index digits 0 == 48) ≡ false → list_all is_digit digits ≡ true
    → 1 ≤ number_of digits
first_counts [] h e f = absurd (omega arith)
first_counts (digit ∷ digits) h e f = grows digits (0 * 10 + (digit - 48)) (grind (arith, nat_tests))

ranged : (read : Option ℕ) (limit : ℕ) → ((value : ℕ) → read ≡ Some value → 1 ≤ value)
    → option_and_then (λ limit. if nat_le limit MAX_EVENTS then Some limit else None) read ≡ Some limit → IsEventLimit limit
ranged None limit h e = cc
ranged (Some value) limit h e =
    let least : 1 ≤ value = h value refl in
    grind (arith, nat_tests)

digits_count : (all : Bool) (text : List ℕ) (value : ℕ) → list_all is_digit text ≡ all → 0 < length text
    → (slice_index text 0 == 48) ≡ false → cond all (Some (number_of text)) None ≡ Some value → 1 ≤ value
digits_count true text value e h f s =
    let counts : 1 ≤ number_of text = first_counts text h f e in
    let same : number_of text ≡ value = cc in
    omega arith
digits_count false text value e h f s = cc

limit_cases : (empty long zero : Bool) (text : List ℕ) (limit : ℕ) → (length text == 0) ≡ empty → nat_lt 7 (length text) ≡ long
    → (slice_index text 0 == 48) ≡ zero
    → (if empty || (long || zero) then None
    else option_and_then (λ limit. if nat_le limit MAX_EVENTS then Some limit else None) (digits_of text)) ≡ Some limit
    → IsEventLimit limit
unfolding digits_of
limit_cases true long zero text limit e f g s = cc
limit_cases false true zero text limit e f g s = cc
limit_cases false false true text limit e f g s = cc
limit_cases false false false text limit e f g s =
    let some : 0 < length text = grind (arith, nat_tests) in
    ranged (digits_of text) limit (λ value h. digits_count (list_all is_digit text) text value refl some g h) s

limit_fits : (text : List ℕ) (limit : ℕ) → limit_of text ≡ Some limit → IsEventLimit limit
unfolding limit_of
limit_fits text limit e =
    limit_cases (length text == 0) (nat_lt 7 (length text)) (slice_index text 0 == 48) text limit refl refl refl e

tick_cases : (cent nickel : Bool) (tick : ℕ) → (if cent then Some 2 else if nickel then Some 10 else None) ≡ Some tick → IsTick tick
tick_cases true nickel tick e = inl cc
tick_cases false true tick e = inr cc
tick_cases false false tick e = cc

tick_fits : (text : List ℕ) (tick : ℕ) → tick_of text ≡ Some tick → IsTick tick
unfolding tick_of
tick_fits text tick e = tick_cases (bytes_eq text (codes "0.01")) (bytes_eq text (codes "0.05")) tick e

-- ---- lines

-- whether the header goes on or ends, its config stays one
abbrev Keeps : Step → Type 0
Keeps step = IfOk step (λ x. IsConfig x.1.config)

keeps_if : (b : Bool) (one other : Step) → Keeps one → Keeps other → Keeps (if b then one else other)
keeps_if true one other k l = k
keeps_if false one other k l = l

-- an addition where there is place
keeps_room : (b : Bool) (one other : Step) → Keeps one → (b ≡ false → Keeps other) → Keeps (if b then one else other)
keeps_room true one other k l = k
keeps_room false one other k l = l refl

room_left : (most count : ℕ) → nat_le most count ≡ false → count + 1 ≤ most
room_left most count e = grind (arith, nat_tests)

keeps_unless : (n : ℕ) (cause : Option LineCause) (step : Step) → (cause ≡ None → Keeps step) → Keeps (unless n cause step)
keeps_unless n None step h = h refl
keeps_unless n (Some cause) step h = tt

member_kept : (n : ℕ) (header : Header) (name : List ℕ) → IsConfig header.config → Keeps (member_line n header name)
unfolding member_line
member_kept n header name config =
    keeps_unless n (name_cause header.config.members name) _ (λ new.
    keeps_room (nat_le 256 (length header.config.members)) _ _ tt (λ room. record {
      members = names_more header.config.members name config.members new;
      markets = config.markets;
      symbols = config.symbols;
      few_members = omega (arith, length-append header.config.members (name ∷ []), room_left 256 (length header.config.members) room);
      few_markets = config.few_markets;
      few_symbols = config.few_symbols;
      limit_each = config.limit_each;
      limits = config.limits;
      tick_each = config.tick_each;
      ticks = config.ticks;
    }))

market_kept : (n : ℕ) (header : Header) (name : List ℕ) → IsConfig header.config → Keeps (market_line n header name)
unfolding market_line
market_kept n header name config =
    keeps_unless n (name_cause header.config.markets name) _ (λ new.
    keeps_room (nat_le 32 (length header.config.markets)) _ _ tt (λ room. record {
      members = config.members;
      markets = names_more header.config.markets name config.markets new;
      symbols = config.symbols;
      few_members = config.few_members;
      few_markets = omega (arith, length-append header.config.markets (name ∷ []), room_left 32 (length header.config.markets) room);
      few_symbols = config.few_symbols;
      limit_each = config.limit_each;
      limits = config.limits;
      tick_each = config.tick_each;
      ticks = config.ticks;
    }))

fits_kept : (n : ℕ) (header : Header) (name : List ℕ) (limit tick : ℕ) → IsConfig header.config
    → name_cause header.config.symbols name ≡ None → IsEventLimit limit → IsTick tick → Keeps (symbol_fits n header name limit tick)
fits_kept n header name limit tick config new fits one =
    keeps_room (nat_le 256 (length header.config.symbols)) _ _ tt (λ room.
    keeps_if (nat_lt MAX_EVENTS (sum header.config.limits + limit)) _ _ tt (record {
      members = config.members;
      markets = config.markets;
      symbols = names_more header.config.symbols name config.symbols new;
      few_members = config.few_members;
      few_markets = config.few_markets;
      few_symbols = omega (arith, length-append header.config.symbols (name ∷ []), room_left 256 (length header.config.symbols) room);
      limit_each = omega (arith, length-append header.config.symbols (name ∷ []), length-append header.config.limits (limit ∷ []), config.limit_each);
      limits = all_append IsEventLimit header.config.limits (limit ∷ []) config.limits (fits, tt);
      tick_each = omega (arith, length-append header.config.symbols (name ∷ []), length-append header.config.ticks (tick ∷ []), config.tick_each);
      ticks = all_append IsTick header.config.ticks (tick ∷ []) config.ticks (one, tt);
    }))

numbers_kept : (n : ℕ) (header : Header) (name : List ℕ) (limit tick : Option ℕ) → IsConfig header.config
    → name_cause header.config.symbols name ≡ None → ((value : ℕ) → limit ≡ Some value → IsEventLimit value)
    → ((value : ℕ) → tick ≡ Some value → IsTick value) → Keeps (symbol_numbers n header name limit tick)
numbers_kept n header name None tick config new fits one = tt
numbers_kept n header name (Some limit) None config new fits one = tt
numbers_kept n header name (Some limit) (Some tick) config new fits one =
    fits_kept n header name limit tick config new (fits limit refl) (one tick refl)

symbol_kept : (n : ℕ) (header : Header) (name limit : List ℕ) (tick : Option ℕ) → IsConfig header.config
    → ((value : ℕ) → tick ≡ Some value → IsTick value) → Keeps (symbol_line n header name limit tick)
unfolding symbol_line
symbol_kept n header name limit tick config one =
    keeps_unless n (name_cause header.config.symbols name) _ (λ new.
    numbers_kept n header name (limit_of limit) tick config new (limit_fits limit) one)

cent_fits : (value : ℕ) → Some 2 ≡ Some value → IsTick value
cent_fits value e = inl cc

symbol_words_kept : (n : ℕ) (header : Header) (words : List (List ℕ)) → IsConfig header.config → Keeps (symbol_words n header words)
symbol_words_kept n header [] config = tt
symbol_words_kept n header (name ∷ []) config = tt
symbol_words_kept n header (name ∷ limit ∷ []) config =
    keeps_if (header.version == 1) _ _ (symbol_kept n header name limit (Some 2) config cent_fits) tt
symbol_words_kept n header (name ∷ limit ∷ tick ∷ []) config =
    keeps_if (header.version == 2) _ _ (symbol_kept n header name limit (tick_of tick) config (tick_fits tick)) tt
symbol_words_kept n header (name ∷ limit ∷ tick ∷ other ∷ words) config = tt

begins_kept : (n : ℕ) (header : Header) (moment : Option ℤ) → IsConfig header.config → Keeps (begins n header moment)
begins_kept n header None config = tt
begins_kept n header (Some moment) config = record {
  members = config.members;
  markets = config.markets;
  symbols = config.symbols;
  few_members = config.few_members;
  few_markets = config.few_markets;
  few_symbols = config.few_symbols;
  limit_each = config.limit_each;
  limits = config.limits;
  tick_each = config.tick_each;
  ticks = config.ticks;
}

one_word_kept : (n : ℕ) (line : List ℕ → Step) (words : List (List ℕ)) → ((word : List ℕ) → Keeps (line word)) → Keeps (one_word n line words)
one_word_kept n line [] h = tt
one_word_kept n line (word ∷ []) h = h word
one_word_kept n line (word ∷ other ∷ words) h = tt

begin_kept : (n : ℕ) (header : Header) (moment : List ℕ) → IsConfig header.config → Keeps (begin_line n header moment)
unfolding begin_line
begin_kept n header moment config = begins_kept n header (script_moment moment) config

keyed_kept : (n : ℕ) (header : Header) (key : List ℕ) (words : List (List ℕ)) → IsConfig header.config → Keeps (keyed n header key words)
unfolding keyed keyed_else
keyed_kept n header key words config =
    keeps_if (bytes_eq key (codes "MEMBER")) _ _ (one_word_kept n _ words (λ name. member_kept n header name config))
    (keeps_if (bytes_eq key (codes "MARKET")) _ _ (one_word_kept n _ words (λ name. market_kept n header name config))
    (keeps_if (bytes_eq key (codes "SYMBOL")) _ _ (symbol_words_kept n header words config)
    (keeps_if (bytes_eq key (codes "BEGIN")) _ _ (one_word_kept n _ words (λ moment. begin_kept n header moment config)) tt)))

keyed_line_kept : (n : ℕ) (header : Header) (words : List (List ℕ)) → IsConfig header.config → Keeps (keyed_line n header words)
keyed_line_kept n header [] config = tt
keyed_line_kept n header (key ∷ words) config = keyed_kept n header key words config

first_kept : (header : Header) (text : List ℕ) → IsConfig header.config → Keeps (first_line header text)
unfolding first_line
first_kept header text config =
    keeps_if (bytes_eq text (codes "PEGV 1")) _ _ config (keeps_if (bytes_eq text (codes "PEGV 2")) _ _ config tt)

line_kept : (n : ℕ) (header : Header) (text : List ℕ) → IsConfig header.config → Keeps (header_line n header text)
unfolding header_line
line_kept n header text config =
    keeps_if (nat_lt MAX_LINE_BYTES (length text)) _ _ tt
    (keeps_if (n == 1) _ _ (first_kept header text config) (keyed_line_kept n header (words_of text) config))

kept : (step : Step) (whole : Bool) (next : Header) → Keeps step → step ≡ Ok (whole, next) → IsConfig next.config
kept (Ok x) whole next k e =
    let same : x ≡ (whole, next) = cc in
    subst (λ (y : Bool × Header). IsConfig y.1.config) same k
kept (Err fault) whole next k e = cc

-- where a line is taken, the config stays one
pub read_keeps : (n : ℕ) (header next : Header) (text : List ℕ) (result : Result Bool LineFault)
    → Meets (header_line n header text) (with_header result next)
    → OnOk result (IsConfig header.config → IsConfig next.config)
read_keeps n header next text (Ok whole) e = λ config. kept (header_line n header text) whole next (line_kept n header text config) e
read_keeps n header next text (Err fault) e = tt

none_named : AreNames []
unfolding IsDistinct
none_named = record { lengths = tt; distinct = tt }

pub blank_kept : IsConfig blank.config
blank_kept = record {
  members = none_named;
  markets = none_named;
  symbols = none_named;
  few_members = omega arith;
  few_markets = omega arith;
  few_symbols = omega arith;
  limit_each = refl;
  limits = tt;
  tick_each = refl;
  ticks = tt;
}
