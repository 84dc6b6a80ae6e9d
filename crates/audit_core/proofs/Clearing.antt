-- No line ends inside a line of a listing.
use Rattle.std.proofs.Common.{◌≡◌, ℕ, zero, suc, ◌+◌, ◌/◌, ◌%◌, ◌^◌, ◌<◌, not, Bool, true, false, eqb, cond, List, [], ◌∷◌, ◌++◌, Option, Some, None, ℤ, refl, inl, arith}
use Rattle.std.specs.Prelude.{decimal, codes}
use Rattle.std.proofs.lemmas.Bool.{and_parts, ltb-true}
use Rattle.std.proofs.lemmas.Bool.Decides.{nat_tests}
use Rattle.std.proofs.lemmas.Fmt.{digits_decimal}
use Rattle.venue_words.specs.Conditions.{fits_limits, fits_quote}
use Rattle.venue_words.specs.Floors.{setup_of, is_configured}
use Rattle.venue_words.specs.declared.command.Command.{Command}
use Rattle.venue_words.specs.declared.command.Command.TheVariants.{Quote, New, Cancel, Replace, Status}
use Rattle.venue_words.specs.declared.command.Event.{Event}
use Rattle.venue_words.specs.declared.config.Config.{Config}
use Rattle.venue_words.specs.declared.report.Report.{Report}
use Rattle.fix_fields.specs.Tags.{numerals, no_mark}
use Rattle.fix_write.specs.Digits.{digit, two_digits, three_digits, four_digits}
use Rattle.fix_write.specs.Moments.{date_text, clock_text, milliseconds_of, moment_text}
use Rattle.fix_write.specs.declared.message_type.MessageType.{MessageType}
use Rattle.fix_write.specs.declared.message_type.MessageType.TheVariants.{ExecutionReport, CancelReject, NewOrder, CancelRequest, ReplaceRequest, StatusRequest}
use Rattle.fix_write.specs.MessageTypes.{byte_of}
use Rattle.exec_reports.specs.Bodies.{byte, body_of, kind_of}
use Rattle.exec_reports.specs.Parts.{is_refusal}
use Rattle.quote_text.specs.Sides.{cents_text, side_text}
use Rattle.script_text.specs.Escaping.{hexadecimal, is_plain, escaped, escape_text}
use Rattle.script_text.specs.Lines.{has_end}
use Rattle.script_text.specs.LinesLaws.{clear_append}
use Rattle.listing.specs.Commands.{name_at, word, quote_text, request_text, command_text}
use Rattle.listing.specs.Lines.{symbol_line, event_line, report_line, report_body}
use Rattle.listing_reader.specs.Fitting.{fits_number, fits_moment, fits_fields, fits_command, fits_event}
use Rattle.audit_core.specs.Names.{are_on_lines, has_line_names}

-- a text in which no line ends
abbrev Clear : List ℕ → Type 0
Clear text = has_end text ≡ false

-- ---- names and numbers

not_false : (b : Bool) → not b ≡ true → b ≡ false
not_false true h = cc
not_false false h = refl

name_clear : (names : List (List ℕ)) (place : ℕ) → are_on_lines names ≡ true → Clear (name_at names place)
name_clear [] place h = refl
name_clear (name ∷ names) zero h = not_false _ (and_parts (not (has_end name)) (are_on_lines names) h).0
name_clear (name ∷ names) (suc place) h = name_clear names place (and_parts (not (has_end name)) (are_on_lines names) h).1

-- the names of a config
record Names (config : Config) : Type 0 where
  pub members : are_on_lines config.members ≡ true
  pub markets : are_on_lines config.markets ≡ true
  pub symbols : are_on_lines config.symbols ≡ true

names_of : (config : Config) → has_line_names config ≡ true → Names config
unfolding has_line_names
names_of config h =
    let parts = and_parts (are_on_lines config.members) _ h in
    let others = and_parts (are_on_lines config.markets) (are_on_lines config.symbols) parts.1 in
    record { members = parts.0; markets = others.0; symbols = others.1 }

number_clear : (n : ℕ) → n < 2 ^ 64 → Clear (decimal n)
number_clear n small = no_mark 10 (inl (omega arith)) (decimal n) (digits_decimal numerals n small)

-- ---- moments and sides

digit_clear : (n : ℕ) → eqb (digit n) 10 ≡ false
digit_clear n = grind (arith, nat_tests)

date_clear : (day : ℕ) → Clear (date_text day)
unfolding date_text two_digits four_digits
date_clear day = simp digit_clear

clock_clear : (millisecond : ℕ) → Clear (clock_text millisecond)
unfolding clock_text two_digits three_digits
clock_clear millisecond = simp digit_clear

moment_clear : (moment : ℤ) → Clear (moment_text moment)
unfolding moment_text
moment_clear moment =
    let day = milliseconds_of moment / 86400000 in
    let rest = milliseconds_of moment % 86400000 in
    clear_append (date_text day ++ codes "-") (clock_text rest) (clear_append (date_text day) (codes "-") (date_clear day) refl) (clock_clear rest)

side_clear : (side : Option ℕ) → fits_quote side ≡ true → Clear (side_text side)
unfolding side_text cents_text
side_clear None h = refl
side_clear (Some cents) h =
    let most : cents < 2 ^ 64 = grind (arith, nat_tests, h) in
    let whole : Clear (decimal (cents / 100)) = number_clear (cents / 100) (omega arith) in
    let a : eqb (48 + cents / 10 % 10) 10 ≡ false = grind (arith, nat_tests) in
    let b : eqb (48 + cents % 10) 10 ≡ false = grind (arith, nat_tests) in
    clear_append (decimal (cents / 100)) _ whole (rw (a, b) refl)

-- ---- escaped text

hexadecimal_clear : (n : ℕ) → eqb (hexadecimal n) 10 ≡ false
hexadecimal_clear n = grind (arith, nat_tests)

escaped_clear : (byte : ℕ) → Clear (escaped byte)
unfolding escaped
escaped_clear byte =
    elim (eqb byte 1) as (λ b. Clear (cond b (124 ∷ []) (cond (is_plain byte) (byte ∷ []) (92 ∷ hexadecimal (byte / 16) ∷ hexadecimal (byte % 16) ∷ [])))) [
      | true ↦ refl
      | false ↦ elim (is_plain byte) as (λ b. (is_plain byte ≡ b) → Clear (cond b (byte ∷ []) (92 ∷ hexadecimal (byte / 16) ∷ hexadecimal (byte % 16) ∷ []))) [
        | true ↦ λ h. let a : eqb byte 10 ≡ false = grind (arith, nat_tests, h) in rw a refl
        | false ↦ λ h. rw (hexadecimal_clear (byte / 16), hexadecimal_clear (byte % 16)) refl
      ] refl
    ]

escape_clear : (bytes : List ℕ) → Clear (escape_text bytes)
unfolding escape_text
escape_clear [] = refl
escape_clear (byte ∷ bytes) = clear_append (escaped byte) (escape_text bytes) (escaped_clear byte) (escape_clear bytes)

-- ---- commands

-- one more word
grow : (front text : List ℕ) → Clear front → Clear text → Clear (front ++ word text)
grow front text x y = clear_append front (word text) x y

quote_clear : (market : List ℕ) (bid offer : Option ℕ) → Clear market → fits_quote bid ≡ true → fits_quote offer ≡ true → Clear (quote_text market bid offer)
unfolding quote_text
quote_clear market bid offer name b o =
    let one : List ℕ = codes "Q" ++ word market in
    grow (one ++ word (side_text bid)) (side_text offer) (grow one (side_text bid) name (side_clear bid b)) (side_clear offer o)

request_clear : (kind : MessageType) (member fields : List ℕ) → eqb (byte_of kind) 10 ≡ false → Clear member → Clear (request_text kind member fields)
unfolding request_text
request_clear kind member fields k name = rw k (grow (word member) (escape_text fields) name (escape_clear fields))

command_clear : (config : Config) (command : Command) → Names config → fits_limits command ≡ true → Clear (command_text config command)
unfolding command_text byte_of
command_clear config (Quote market bid offer) names fits =
    let sides = and_parts (fits_quote bid) (fits_quote offer) fits in
    quote_clear (name_at config.markets market) bid offer (name_clear config.markets market names.markets) sides.0 sides.1
command_clear config (New member id terms) names fits = request_clear NewOrder (name_at config.members member) _ refl (name_clear config.members member names.members)
command_clear config (Cancel member id orig) names fits = request_clear CancelRequest (name_at config.members member) _ refl (name_clear config.members member names.members)
command_clear config (Replace member id orig terms) names fits = request_clear ReplaceRequest (name_at config.members member) _ refl (name_clear config.members member names.members)
command_clear config (Status member id side) names fits = request_clear StatusRequest (name_at config.members member) _ refl (name_clear config.members member names.members)

-- ---- lines

pub symbol_clear : (config : Config) (symbol events reports : ℕ) → has_line_names config ≡ true → fits_number events ≡ true → fits_number reports ≡ true
    → has_end (symbol_line (name_at config.symbols symbol) events reports) ≡ false
unfolding symbol_line
symbol_clear config symbol events reports names few short =
    let e : events < 1000000000 = ltb-true _ _ few in
    let r : reports < 1000000000 = ltb-true _ _ short in
    let one : List ℕ = codes "S" ++ word (name_at config.symbols symbol) in
    grow (one ++ word (decimal events)) (decimal reports)
    (grow one (decimal events) (name_clear config.symbols symbol (names_of config names).symbols) (number_clear events (omega arith)))
    (number_clear reports (omega arith))

-- what an event that fits keeps to
record Fits (config : Config) (event : Event) : Type 0 where
  pub number : event.number < 1000000000
  pub feed : event.feed < 1000000000
  pub limits : fits_limits event.command ≡ true

fits_of : (config : Config) (event : Event) → fits_event config event ≡ true → Fits config event
unfolding fits_event fits_command
fits_of config event h =
    let a = and_parts (fits_number event.number) _ h in
    let b = and_parts (fits_number event.feed) _ a.1 in
    let c = and_parts (fits_moment event.moment) _ b.1 in
    let d = and_parts (is_configured (setup_of config) event.command) _ c.1 in
    record { number = ltb-true _ _ a.0; feed = ltb-true _ _ b.0; limits = (and_parts (fits_limits event.command) (fits_fields event.command) d.1).0 }

pub event_clear : (config : Config) (symbol : ℕ) (event : Event) → has_line_names config ≡ true → fits_event config event ≡ true
    → has_end (event_line config symbol event) ≡ false
unfolding event_line
event_clear config symbol event lines h =
    let names = names_of config lines in
    let fits = fits_of config event h in
    let one : List ℕ = codes "J" ++ word (name_at config.symbols symbol) in
    let two : List ℕ = one ++ word (decimal event.number) in
    let three : List ℕ = two ++ word (decimal event.feed) in
    let four : List ℕ = three ++ word (moment_text event.moment) in
    let a : Clear two = grow one (decimal event.number) (name_clear config.symbols symbol names.symbols) (number_clear event.number (omega (arith, fits.number))) in
    let b : Clear three = grow two (decimal event.feed) a (number_clear event.feed (omega (arith, fits.feed))) in
    let c : Clear four = grow three (moment_text event.moment) b (moment_clear event.moment) in
    grow four (command_text config event.command) c (command_clear config event.command names fits.limits)

kind_clear : (b : Bool) → Clear (byte (byte_of (cond b CancelReject ExecutionReport)))
unfolding byte_of
kind_clear true = refl
kind_clear false = refl

code_clear : (report : Report) → Clear (byte (byte_of (kind_of report)))
unfolding kind_of
code_clear report = kind_clear (is_refusal report.kind)

pub report_clear : (config : Config) (symbol : ℕ) (report : Report) → has_line_names config ≡ true → report.event < 2 ^ 64 → report.place < 2 ^ 64
    → has_end (report_line config symbol report) ≡ false
unfolding report_line
report_clear config symbol report lines number place =
    let names = names_of config lines in
    let one : List ℕ = codes "R" ++ word (name_at config.symbols symbol) in
    let two : List ℕ = one ++ word (decimal report.event) in
    let three : List ℕ = two ++ word (decimal report.place) in
    let four : List ℕ = three ++ word (name_at config.members report.member) in
    let five : List ℕ = four ++ word (byte (byte_of (kind_of report))) in
    let a : Clear two = grow one (decimal report.event) (name_clear config.symbols symbol names.symbols) (number_clear report.event number) in
    let b : Clear three = grow two (decimal report.place) a (number_clear report.place place) in
    let c : Clear four = grow three (name_at config.members report.member) b (name_clear config.members report.member names.members) in
    let d : Clear five = grow four (byte (byte_of (kind_of report))) c (code_clear report) in
    grow five (report_body config symbol report) d (escape_clear (body_of report (name_at config.symbols symbol) (name_at config.members report.member)))
