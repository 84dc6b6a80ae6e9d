-- Each line of the load script is read: the header as a config, messages as frames, quotes as quotes.
use Rattle.std.proofs.Common.{◌≡◌, ℕ, ◌+◌, ◌-◌, ◌*◌, ◌%◌, ◌^◌, ◌<◌, ◌≤◌, ◌==◌, ◌||◌, nat_eq, nat_lt, nat_le, Bool, true, false, cond, ℤ, pos, List, [], ◌∷◌, ◌++◌, length, map, get_or, fold, Option, Some, None, Ok, codes, decimal, sum, is_some, unwrap_or, refl, sym, ◌∙◌, ap, append_assoc, drop_at, length-append, arith, rules}
use Rattle.std.proofs.lemmas.Bool.{and_parts, and_from}
use Rattle.std.proofs.lemmas.Bool.Decides.{nat_tests}
use Rattle.std.proofs.lemmas.Fmt.{digits_decimal, digits_value-decimal, length-decimal-le, decimal_nonempty, first_decimal}
use Rattle.std.proofs.lemmas.List.{map-append, length-map}
use Rattle.std.proofs.lemmas.List.Folds.{list_all-append}
use Rattle.std.proofs.lemmas.Str.Parse.{IsNumeralModel, numerals_by_fold}
use Rattle.std.specs.List.{list_all, slice_split, onto_first, ends_with}
use Rattle.venue_words.specs.declared.command.Command.{Command}
use Rattle.venue_words.specs.declared.command.Command.TheVariants.{Quote as quoted}
use Rattle.venue_words.specs.declared.config.Config.{Config}
use Rattle.venue_words.specs.declared.limits.TheConstants.{MAX_EVENTS, MAX_FRAME_BYTES, MAX_LINE_BYTES}
use Rattle.fix_fields.specs.Forms.{moment_of, numeral, day_number, civil_day, second_of_day, milliseconds}
use Rattle.fix_frames.specs.Frames.{IsFrame, EndsWithSoh}
use Rattle.fix_frames.specs.FramedLaws.{wrapped_frame}
use Rattle.fix_write.specs.Digits.{three_digits}
use Rattle.fix_write.specs.Fields.{field}
use Rattle.fix_write.specs.Framing.{wrapped, closed, opening}
use Rattle.fix_write.specs.Lengths.{length-field}
use Rattle.quote_intake.specs.Price.{is_digit, number_of, digits_of, price_of, cents_of, has_form, in_range}
use Rattle.quote_intake.specs.Quote.{quote_in, number_in}
use Rattle.script_text.specs.Body.{read_of, line_of, keyed_body, piece_line, piece_read, message_of, at_line}
use Rattle.script_text.specs.Escaping.{is_plain, is_plain_or, replaced, lone_byte, before_bytes, text_of}
use Rattle.script_text.specs.Header.{header_line, first_line, keyed, keyed_else, member_line, market_line, symbol_line, begin_line, name_cause, with_config, with_version, with_member, with_market, with_symbol, blank}
use Rattle.script_text.specs.Load.{order_front, offset_text, order_line, quote_line, last_line}
use Rattle.script_text.specs.Words.{is_name, is_name_byte, is_letter, limit_of, script_moment}
use Rattle.script_text.specs.declared.body.Line.TheVariants.{Piece, Quote}
use Rattle.script_text.specs.declared.header.Header.{Header}

-- ---- numbers

value_from : ℕ → List ℕ → ℕ
value_from start digits = fold (λ number digit. number * 10 + (digit - 48)) start digits

own : IsNumeralModel (λ ds. list_all is_digit ds ≡ true) (value_from 0)
unfolding value_from
own = numerals_by_fold _ (search rules) value_from (search rules)

digits_read : (n : ℕ) → n < 2 ^ 64 → digits_of (decimal n) ≡ Some n
unfolding digits_of value_from
digits_read n small =
    let all : list_all is_digit (decimal n) ≡ true = digits_decimal own n small in
    let value : number_of (decimal n) ≡ n = digits_value-decimal own n small in
    rw (all, value) refl

limit_read : (n : ℕ) → 0 < n → n ≤ 1000000 → limit_of (decimal n) ≡ Some n
unfolding limit_of
limit_read n some most =
    let long = length-decimal-le 7 n (omega arith) (omega arith) (omega arith) in
    let there = decimal_nonempty n (omega arith) in
    let first = first_decimal n some (omega arith) in
    let a : nat_eq (length (decimal n)) 0 ≡ false = grind (arith, nat_tests) in
    let b : nat_lt 7 (length (decimal n)) ≡ false = grind (arith, nat_tests) in
    let c : nat_eq (get_or (decimal n) 0 0) 48 ≡ false = grind (arith, nat_tests) in
    let d : nat_le n MAX_EVENTS ≡ true = grind (arith, nat_tests) in
    rw (a, b, c, digits_read n (omega arith)) (rw d refl)

-- ---- plain texts

plain_bar : (rest : List ℕ) → text_of (124 ∷ rest) ≡ before_bytes (Some 1) (text_of rest)
unfolding text_of lone_byte
plain_bar rest = refl

plain_one : (byte : ℕ) (rest : List ℕ) → is_plain byte ≡ true → text_of (byte ∷ rest) ≡ before_bytes (Some byte) (text_of rest)
unfolding text_of lone_byte
plain_one byte rest e =
    let a : (byte == 92) ≡ false = grind (arith, nat_tests) in
    let b : (byte == 124) ≡ false = grind (arith, nat_tests) in
    rw (e, a, b) refl

plain_first : (bar plain : Bool) (byte : ℕ) (rest : List ℕ) → (byte == 124) ≡ bar → is_plain byte ≡ plain → (bar || plain) ≡ true
    → text_of (byte ∷ rest) ≡ before_bytes (Some (cond bar 1 byte)) (text_of rest)
plain_first true plain byte rest e f h = let is : byte ≡ 124 = grind (arith, nat_tests) in rw is (plain_bar rest)
plain_first false true byte rest e f h = plain_one byte rest f
plain_first false false byte rest e f h = cc

abbrev IsPlain : List ℕ → Type 0
IsPlain text = list_all (is_plain_or 124) text ≡ true

abbrev bytes_in : List ℕ → List ℕ
bytes_in text = map (replaced 124 1) text

plain_bytes : (text : List ℕ) → IsPlain text → text_of text ≡ Some (bytes_in text)
unfolding text_of
plain_bytes [] h = refl
plain_bytes (byte ∷ text) h =
    let parts = and_parts (is_plain_or 124 byte) (list_all (is_plain_or 124) text) h in
    plain_first (byte == 124) (is_plain byte) byte text refl refl parts.0
    ∙ ap (before_bytes (Some (replaced 124 1 byte))) (plain_bytes text parts.1)

plain_both : (xs ys : List ℕ) → IsPlain xs → IsPlain ys → IsPlain (xs ++ ys)
plain_both xs ys a b = list_all-append (is_plain_or 124) xs ys ∙ and_from _ _ a b

digit_plain : (byte : ℕ) → is_digit byte ≡ true → is_plain_or 124 byte ≡ true
digit_plain byte e = grind (arith, nat_tests)

digits_plain : (ds : List ℕ) → list_all is_digit ds ≡ true → IsPlain ds
digits_plain [] h = refl
digits_plain (d ∷ ds) h =
    let parts = and_parts (is_digit d) (list_all is_digit ds) h in
    and_from _ _ (digit_plain d parts.0) (digits_plain ds parts.1)

number_plain : (n : ℕ) → n < 2 ^ 64 → IsPlain (decimal n)
number_plain n small = digits_plain (decimal n) (digits_decimal own n small)

-- ---- messages

-- a line of a message of the member, short and in plain bytes
pub record IsMessage (line : List ℕ) : Type 0 where
  pub text : List ℕ
  pub whole : line ≡ 77 ∷ 32 ∷ 65 ∷ 32 ∷ text
  pub start : List ℕ
  pub opens : text ≡ codes "35=" ++ start
  pub front : List ℕ
  pub closes : text ≡ front ++ 124 ∷ []
  pub plain : IsPlain text
  pub short : length text ≤ 1000

-- the config of the load script
abbrev pub load_config : ℕ → ℤ → Config
load_config limit begin = record {
  members = codes "A" ∷ [];
  markets = codes "M" ∷ [];
  symbols = codes "L" ∷ [];
  limits = limit ∷ [];
  ticks = 2 ∷ [];
  begin = begin;
}

-- the frame of a message
abbrev pub frame_in : {line : List ℕ} → IsMessage line → List ℕ
frame_in m = wrapped (bytes_in m.text)

pub frame_opens : (text start : List ℕ) → text ≡ codes "35=" ++ start → bytes_in text ≡ codes "35=" ++ bytes_in start
frame_opens text start e = ap bytes_in e

frame_closes : (text front : List ℕ) → text ≡ front ++ 124 ∷ [] → EndsWithSoh (bytes_in text)
frame_closes text front e = record { most = bytes_in front; ends = ap bytes_in e ∙ map-append (replaced 124 1) front (124 ∷ []) }

frame_length : (content : List ℕ) → length content ≤ 1000 → length (wrapped content) ≤ MAX_FRAME_BYTES
unfolding wrapped closed opening three_digits
frame_length content short =
    let o = field 8 (codes "FIXT.1.1") ++ field 9 (decimal (length content)) in
    let a = length-append o content in
    let b = length-append (field 8 (codes "FIXT.1.1")) (field 9 (decimal (length content))) in
    let c = length-field 8 (codes "FIXT.1.1") in
    let d = length-field 9 (decimal (length content)) in
    let e = length-decimal-le 4 (length content) (omega arith) (omega arith) (omega arith) in
    let f = length-decimal-le 1 8 (omega arith) (omega arith) (omega arith) in
    let g = length-decimal-le 1 9 (omega arith) (omega arith) (omega arith) in
    let h = length-decimal-le 2 10 (omega arith) (omega arith) (omega arith) in
    let i = length-field 10 (three_digits (sum (o ++ content) % 256)) in
    let j = length-append (o ++ content) (field 10 (three_digits (sum (o ++ content) % 256))) in
    omega (arith, a, b, c, d, e, f, g, h, i, j)

-- a message of the load script is framed
pub message_framed : (line : List ℕ) (m : IsMessage line) → IsFrame (frame_in m) × (length (frame_in m) ≤ MAX_FRAME_BYTES)
message_framed line m =
    let count = length-map m.text (replaced 124 1) in
    let fits = frame_length (bytes_in m.text) (omega (arith, count, m.short)) in (
      wrapped_frame (bytes_in m.text) (bytes_in m.start) (frame_opens m.text m.start m.opens) (frame_closes m.text m.front m.closes) fits,
      fits,
    )

ends_bar : (front : List ℕ) → ends_with nat_eq (front ++ 124 ∷ []) (codes "|") ≡ true
ends_bar front =
    let before : length (front ++ 124 ∷ []) - 1 ≡ length front = omega (arith, length-append front (124 ∷ [])) in
    rw (before, drop_at front (124 ∷ []) (length front) refl) refl

message_text : (text front : List ℕ) → text ≡ front ++ 124 ∷ [] → IsPlain text → message_of text ≡ Some (wrapped (bytes_in text))
unfolding message_of
message_text text front e plain =
    let ends : ends_with nat_eq text (codes "|") ≡ true = ap (λ (t : List ℕ). ends_with nat_eq t (codes "|")) e ∙ ends_bar front in
    rw (ends, plain_bytes text plain) refl

split_some : (text : List ℕ) → (first : List ℕ) × (others : List (List ℕ)) × (slice_split (λ byte. byte == 32) text ≡ first ∷ others)
split_some [] = ([], [], refl)
split_some (byte ∷ text) =
    elim (byte == 32) as (λ b. (first : List ℕ) × (others : List (List ℕ))
    × (cond b ([] ∷ slice_split (λ (c : ℕ). c == 32) text) (onto_first byte (slice_split (λ (c : ℕ). c == 32) text)) ≡ first ∷ others)) [
      | true ↦ ([], slice_split (λ (c : ℕ). c == 32) text, refl)
      | false ↦ let rest = split_some text in (byte ∷ rest.0, rest.1, ap (onto_first byte) rest.2)
    ]

words_read : (config : Config) (words : List (List ℕ)) (first : List ℕ) (others : List (List ℕ)) (text : List ℕ)
    → words ≡ first ∷ others
    → piece_line message_of config ((65 ∷ []) ∷ words) (65 ∷ 32 ∷ text) ≡ piece_read (number_in config.members (65 ∷ [])) (message_of text)
words_read config words first others text e = rw e refl

text_read : (limit : ℕ) (begin : ℤ) (text front : List ℕ) → text ≡ front ++ 124 ∷ [] → IsPlain text → length text ≤ 1000
    → read_of (load_config limit begin) (77 ∷ 32 ∷ 65 ∷ 32 ∷ text) ≡ Ok (Piece 0 (wrapped (bytes_in text)))
unfolding read_of line_of keyed_body
text_read limit begin text front closes plain short =
    let config = load_config limit begin in
    let fits : nat_lt MAX_LINE_BYTES (length (77 ∷ 32 ∷ 65 ∷ 32 ∷ text)) ≡ false = grind (arith, nat_tests) in
    let words = split_some text in
    let piece = words_read config (slice_split (λ byte. byte == 32) text) words.0 words.1 text words.2 in
    rw fits (ap (at_line 1) (piece ∙ ap (piece_read (Some 0)) (message_text text front closes plain)))

-- a message is read as its frame
pub message_read : (limit : ℕ) (begin : ℤ) (line : List ℕ) (m : IsMessage line)
    → read_of (load_config limit begin) line ≡ Ok (Piece 0 (frame_in m))
message_read limit begin line m =
    ap (read_of (load_config limit begin)) m.whole ∙ text_read limit begin m.text m.front m.closes m.plain m.short

-- ---- which lines are messages

-- bytes that may stand in a message, at most so many
record IsGood (bytes : List ℕ) (most : ℕ) : Type 0 where
  plain : IsPlain bytes
  short : length bytes ≤ most

fixed : (bytes : List ℕ) (most : ℕ) → IsPlain bytes → nat_le (length bytes) most ≡ true → IsGood bytes most
fixed bytes most plain fits = record { plain = plain; short = grind (arith, nat_tests) }

both : {xs ys : List ℕ} {m n : ℕ} → IsGood xs m → IsGood ys n → IsGood (xs ++ ys) (m + n)
both {xs} {ys} a b = record { plain = plain_both xs ys a.plain b.plain; short = omega (arith, length-append xs ys, a.short, b.short) }

number : (n : ℕ) → n < 2 ^ 33 → IsGood (decimal n) 10
number n small = record { plain = number_plain n (omega arith); short = length-decimal-le 10 n (omega arith) (omega arith) (omega arith) }

offset : (ticks : ℕ) → ticks < 8 → IsGood (offset_text ticks) 11
unfolding offset_text
offset ticks few =
    elim (ticks == 0) as (λ b. IsGood (cond b (codes "0") (codes "-" ++ decimal ticks)) 11) [
      | true ↦ fixed (codes "0") 11 refl refl
      | false ↦ both (fixed (codes "-") 1 refl refl) (number ticks (omega arith))
    ]

-- an order up to its ClOrdID, behind the member's name
abbrev front_text : ℕ → List ℕ
front_text id = codes "35=D|49=A|56=PEGV|34=" ++ decimal (id + 1) ++ codes "|52=20240102-14:30:00|11=" ++ decimal id

front_good : (id : ℕ) → id + 1 < 2 ^ 33 → IsGood (front_text id) 80
front_good id small =
    let all = both (both (both (fixed (codes "35=D|49=A|56=PEGV|34=") 30 refl refl) (number (id + 1) small))
    (fixed (codes "|52=20240102-14:30:00|11=") 30 refl refl)) (number id (omega arith)) in
    record { plain = all.plain; short = omega (arith, all.short) }

-- a message whose text has so good a front, and this end
closed_message : (line front end : List ℕ) (most : ℕ) → line ≡ 77 ∷ 32 ∷ 65 ∷ 32 ∷ (front ++ (end ++ 124 ∷ []))
    → (start : List ℕ) → front ≡ codes "35=" ++ start → IsGood front most → IsGood end 100 → most ≤ 800 → IsMessage line
closed_message line front end most whole start opens good ending small =
    let all = both good (both ending (fixed (124 ∷ []) 1 refl refl)) in
    record {
      text = front ++ (end ++ 124 ∷ []);
      whole = whole;
      start = start ++ (end ++ 124 ∷ []);
      opens = ap (λ (t : List ℕ). t ++ (end ++ 124 ∷ [])) opens;
      front = front ++ end;
      closes = sym (append_assoc front end (124 ∷ []));
      plain = all.plain;
      short = omega (arith, all.short, small);
    }

pub order_message : (i : ℕ) → i < 2 ^ 32 → IsMessage (order_line i)
unfolding order_line order_front
order_message i small =
    let good = both (both (front_good i (omega arith)) (fixed (codes "|55=L|54=1|38=100|40=P|1094=5|836=2|211=") 50 refl refl))
    (offset (i % 8) (omega arith)) in
    closed_message _ (front_text i ++ codes "|55=L|54=1|38=100|40=P|1094=5|836=2|211=" ++ offset_text (i % 8))
    (codes "|60=20240102-14:30:00") _ refl _ refl good (fixed (codes "|60=20240102-14:30:00") 100 refl refl) (omega arith)

pub last_message : (orders : ℕ) → orders < 2 ^ 32 → IsMessage (last_line orders)
unfolding last_line order_front
last_message orders small =
    closed_message _ (front_text (orders + 1)) (codes "|55=L|54=2|38=1000|40=2|44=9.98|59=3|60=20240102-14:30:00") _ refl _ refl
    (front_good (orders + 1) (omega arith))
    (fixed (codes "|55=L|54=2|38=1000|40=2|44=9.98|59=3|60=20240102-14:30:00") 100 refl refl) (omega arith)

-- the Logon
abbrev pub logon_line : List ℕ
logon_line = codes "M A 35=A|49=A|56=PEGV|34=1|52=20240102-14:30:00|98=0|108=30|1137=9|"

pub logon_message : IsMessage logon_line
logon_message =
    closed_message _ (codes "35=A|49=A|56=PEGV|34=1|52=20240102-14:30:00") (codes "|98=0|108=30|1137=9") 100 refl _ refl
    (fixed (codes "35=A|49=A|56=PEGV|34=1|52=20240102-14:30:00") 100 refl refl) (fixed (codes "|98=0|108=30|1137=9") 100 refl refl) (omega arith)

-- a line is short
pub message_short : (line : List ℕ) (m : IsMessage line) → length line ≤ 1004
message_short line m = let count = ap (length {A = ℕ}) m.whole in omega (arith, m.short, count)

-- ---- quotes

-- the two quotes of the load script: 10.00 to 10.02, and 10.01 to 10.03
abbrev pub low : Command
low = quoted 0 (Some 1000) (Some 1002)

abbrev pub high : Command
high = quoted 0 (Some 1001) (Some 1003)

pub low_read : (limit : ℕ) (begin : ℤ) → read_of (load_config limit begin) (codes "Q L M 10.00 10.02") ≡ Ok (Quote 0 low)
unfolding read_of line_of keyed_body quote_in price_of cents_of has_form digits_of in_range
low_read limit begin = refl

pub high_read : (limit : ℕ) (begin : ℤ) → read_of (load_config limit begin) (codes "Q L M 10.01 10.03") ≡ Ok (Quote 0 high)
unfolding read_of line_of keyed_body quote_in price_of cents_of has_form digits_of in_range
high_read limit begin = refl

-- a line that quotes
pub record IsQuoteLine (limit : ℕ) (begin : ℤ) (line : List ℕ) : Type 0 where
  pub command : Command
  pub read : read_of (load_config limit begin) line ≡ Ok (Quote 0 command)
  pub short : length line ≤ 1000

pub first_quote : (limit : ℕ) (begin : ℤ) → IsQuoteLine limit begin (codes "Q L M 10.00 10.02")
first_quote limit begin = record { command = low; read = low_read limit begin; short = omega arith }

pub each_quote : (limit : ℕ) (begin : ℤ) (k : ℕ) → IsQuoteLine limit begin (quote_line k)
unfolding quote_line
each_quote limit begin k =
    elim (k % 2 == 1) as (λ b. IsQuoteLine limit begin (cond b (codes "Q L M 10.01 10.03") (codes "Q L M 10.00 10.02"))) [
      | true ↦ record { command = high; read = high_read limit begin; short = omega arith }
      | false ↦ first_quote limit begin
    ]

-- ---- the header

abbrev pub header_one : Header
header_one = with_version blank 1

abbrev pub header_two : Header
header_two = with_member header_one (codes "A")

abbrev pub header_three : Header
header_three = with_market header_two (codes "M")

abbrev pub header_four : ℕ → Header
header_four limit = with_symbol header_three (codes "L") limit 2

pub version_read : header_line 1 blank (codes "PEGV 1") ≡ Ok (false, header_one)
unfolding header_line first_line
version_read = refl

pub member_read : header_line 2 header_one (codes "MEMBER A") ≡ Ok (false, header_two)
unfolding header_line keyed member_line name_cause is_name is_letter is_name_byte
member_read = refl

pub market_read : header_line 3 header_two (codes "MARKET M") ≡ Ok (false, header_three)
unfolding header_line keyed market_line name_cause is_name is_letter is_name_byte
market_read = refl

digit_no_space : (d : ℕ) → is_digit d ≡ true → (d == 32) ≡ false
digit_no_space d e = grind (arith, nat_tests)

one_word : (ds : List ℕ) → list_all is_digit ds ≡ true → slice_split (λ byte. byte == 32) ds ≡ ds ∷ []
one_word [] h = refl
one_word (d ∷ ds) h =
    let parts = and_parts (is_digit d) (list_all is_digit ds) h in
    rw (digit_no_space d parts.0, one_word ds parts.1) refl

pub symbol_read : (limit : ℕ) → 0 < limit → limit ≤ 1000000
    → header_line 4 header_three (codes "SYMBOL L " ++ decimal limit) ≡ Ok (false, header_four limit)
unfolding header_line keyed keyed_else symbol_line name_cause is_name is_letter is_name_byte
symbol_read limit some most =
    let count = length-decimal-le 7 limit (omega arith) (omega arith) (omega arith) in
    let short : nat_lt MAX_LINE_BYTES (length (codes "SYMBOL L " ++ decimal limit)) ≡ false = grind (arith, nat_tests) in
    let words : slice_split (λ byte. byte == 32) (decimal limit) ≡ decimal limit ∷ [] = one_word (decimal limit) (digits_decimal own limit (omega arith)) in
    let room : nat_lt MAX_EVENTS (0 + limit) ≡ false = grind (arith, nat_tests) in
    rw (short, words) (rw (limit_read limit some most) (rw room refl))

some_is : (o : Option ℤ) → is_some o ≡ true → o ≡ Some (unwrap_or o (pos 0))
some_is None e = absurd (cc)
some_is (Some moment) e = refl

-- the moment at which the load script begins
pub begins_at : ℤ
begins_at = unwrap_or (script_moment (codes "20240102-14:30:00.000")) (pos 0)

moment_there : is_some (script_moment (codes "20240102-14:30:00.000")) ≡ true
unfolding script_moment moment_of numeral day_number civil_day second_of_day milliseconds
moment_there = refl

moment_read : script_moment (codes "20240102-14:30:00.000") ≡ Some begins_at
unfolding begins_at
moment_read = some_is (script_moment (codes "20240102-14:30:00.000")) moment_there

pub begin_read : (limit : ℕ) → header_line 5 (header_four limit) (codes "BEGIN 20240102-14:30:00.000")
    ≡ Ok (true, with_config (header_four limit) (load_config limit begins_at))
unfolding header_line keyed keyed_else begin_line
begin_read limit = rw moment_read refl
