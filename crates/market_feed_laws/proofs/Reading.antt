-- The lines of quotes are read one after the other.
use Rattle.std.proofs.Common.{◌≡◌, ℕ, zero, suc, ◌+◌, ◌/◌, ◌%◌, ◌≤◌, ◌<◌, true, false, ℤ, ◌≤ℤ◌, List, [], ◌∷◌, ◌++◌, length, length-append, cond, Option, Some, None, Result, Ok, decimal, refl, sym, ◌∙◌, ap, arith, append_assoc, slice_get}
use Rattle.std.specs.Prelude.{codes}
use Rattle.std.specs.List.{AllByRecursion}
use Rattle.std.specs.Ordering.{int_eq}
use Rattle.std.proofs.lemmas.Bool.Decides.{nat_tests}
use Rattle.std.proofs.lemmas.Fmt.{length-decimal-le}
use Rattle.std.proofs.lemmas.Int.{ints}
use Rattle.venue_words.specs.declared.command.Command.{Command}
use Rattle.venue_words.specs.declared.command.Command.TheVariants.{Quote}
use Rattle.venue_words.specs.declared.config.Config.{Config}
use Rattle.venue_words.specs.declared.limits.TheConstants.{MAX_CENTS, MAX_LINE_BYTES}
use Rattle.venue_words.specs.Conditions.{IsConfig, fits_quote}
use Rattle.fix_fields.specs.declared.moments.TheConstants.{FIRST_MOMENT, LAST_MOMENT}
use Rattle.fix_write.specs.Moments.{moment_text}
use Rattle.member_gate.specs.Answering.{Submission, name_at}
use Rattle.quote_text.specs.Sides.{cents_text, side_text}
use Rattle.quote_text.proofs.Written.{written_side}
use Rattle.script_text.specs.declared.body.Line.TheVariants as line
use Rattle.script_text.specs.declared.body.Line.{Line}
use Rattle.script_text.specs.declared.fault.LineFault.{LineFault}
use Rattle.script_text.specs.Body.{read_of}
use Rattle.script_text.specs.Lines.{Cut, cut, has_end}
use Rattle.script_text.specs.LinesLaws.{clear_append, cut_first}
use Rattle.script_text.specs.Words.{is_name}
use Rattle.line_work.specs.Commands.{and_then, submitted_by}
use Rattle.line_work.specs.FeedState.{FeedState}
use Rattle.line_work.specs.LineWork.{work_of_moment, work_of_read, work_of_text}
use Rattle.market_data.specs.Lines.{TimedQuote, moment_line, quote_line, lines_from}
use Rattle.market_feed_laws.specs.ReadBack.{HasNames, as_commands}
use Rattle.market_feed_laws.proofs.Plain.{ArePlain, no_end, plain_moment, plain_name, plain_side, name_length}
use Rattle.market_feed_laws.proofs.Written.{quote_words, moment_read, quote_read, found_name}

-- ---- what a quote needs, so that its line is read

pub record IsWritable (config : Config) (one : TimedQuote) : Type 0 where
  pub market : ℕ
  pub bid : Option ℕ
  pub offer : Option ℕ
  pub quote_is : one.quote ≡ Quote market bid offer
  pub symbol_within : one.symbol < length config.symbols
  pub market_within : market < length config.markets
  pub bid_fits : fits_quote bid ≡ true
  pub offer_fits : fits_quote offer ≡ true

abbrev pub IsTimely : TimedQuote → Type 0
IsTimely one = (FIRST_MOMENT ≤ℤ one.moment) × (one.moment ≤ℤ LAST_MOMENT)

-- ---- names and sides

named : (names : List (List ℕ)) (place : ℕ) → place < length names → slice_get names place ≡ Some (name_at names place)
named [] place h = absurd (omega arith)
named (x ∷ names) zero h = refl
named (x ∷ names) (suc place) h = named names place (omega arith)

all_at : (P : List ℕ → Type 0) (names : List (List ℕ)) (place : ℕ) → place < length names → AllByRecursion P names → P (name_at names place)
all_at P [] place h a = absurd (omega arith)
all_at P (x ∷ names) zero h a = a.0
all_at P (x ∷ names) (suc place) h a = all_at P names place (omega arith) a.1

fits_cents : (cents : ℕ) → fits_quote (Some cents) ≡ true → cents ≤ MAX_CENTS
fits_cents cents e = grind (arith, nat_tests)

plain_fitting : (side : Option ℕ) → fits_quote side ≡ true → ArePlain (side_text side)
plain_fitting None e = plain_side None (λ cents h. absurd (cc))
plain_fitting (Some cents) e =
    let most = fits_cents cents e in
    plain_side (Some cents) (λ other h. let same : cents ≡ other = cc in omega arith)

short_cents : (cents : ℕ) → cents ≤ MAX_CENTS → length (cents_text cents) ≤ 8
unfolding cents_text
short_cents cents most =
    let whole = cents / 100 in
    let few : length (decimal whole) ≤ 5 = length-decimal-le 5 whole (omega arith) (omega arith) (omega arith) in
    omega (arith, few, length-append (decimal whole) (46 ∷ (48 + cents / 10 % 10) ∷ (48 + cents % 10) ∷ []))

short_side : (side : Option ℕ) → fits_quote side ≡ true → length (side_text side) ≤ 8
unfolding side_text
short_side None e = omega arith
short_side (Some cents) e = short_cents cents (fits_cents cents e)

-- ---- lines of a text

line_first : (held more : List ℕ) → has_end held ≡ false → (cut ((held ++ 10 ∷ []) ++ more)).lines ≡ held ∷ (cut more).lines
line_first held more e =
    ap (λ (text : List ℕ). (cut text).lines) (append_assoc held (10 ∷ []) more) ∙ ap (λ (c : Cut). c.lines) (cut_first held more e)

moment_clear : (moment : ℤ) → has_end (codes "T " ++ moment_text moment) ≡ false
moment_clear moment = clear_append (codes "T ") (moment_text moment) refl (no_end (moment_text moment) (plain_moment moment))

spaced_clear : (word : List ℕ) → ArePlain word → has_end (word ++ 32 ∷ []) ≡ false
spaced_clear word p = clear_append word (32 ∷ []) (no_end word p) refl

quote_clear : (symbol market bid offer : List ℕ) → ArePlain symbol → ArePlain market → ArePlain bid → ArePlain offer
    → has_end (quote_words symbol market bid offer) ≡ false
quote_clear symbol market bid offer s m b o =
    clear_append (codes "Q " ++ (symbol ++ 32 ∷ []) ++ (market ++ 32 ∷ []) ++ (bid ++ 32 ∷ [])) offer
    (clear_append (codes "Q " ++ (symbol ++ 32 ∷ []) ++ (market ++ 32 ∷ [])) (bid ++ 32 ∷ [])
    (clear_append (codes "Q " ++ (symbol ++ 32 ∷ [])) (market ++ 32 ∷ [])
    (clear_append (codes "Q ") (symbol ++ 32 ∷ []) refl (spaced_clear symbol s)) (spaced_clear market m)) (spaced_clear bid b)) (no_end offer o)

-- ---- what lines give

moment_gives : (state : FeedState) (moment : ℤ) (lines : List (List ℕ)) → FIRST_MOMENT ≤ℤ moment → moment ≤ℤ LAST_MOMENT
    → submitted_by state ((codes "T " ++ moment_text moment) ∷ lines) ≡ submitted_by (work_of_moment state moment).state lines
unfolding submitted_by work_of_text
moment_gives state moment lines low high =
    ap (λ (r : Result Line LineFault). and_then (work_of_read state r) (λ next. submitted_by next lines)) (moment_read state.config moment low high)

quote_gives : (state : FeedState) (text : List ℕ) (symbol : ℕ) (command : Command) (lines : List (List ℕ))
    → read_of state.config text ≡ Ok (line.Quote symbol command)
    → submitted_by state (text ∷ lines) ≡ (state.moment, record { symbol = symbol; command = command }) ∷ submitted_by state lines
unfolding submitted_by work_of_text
quote_gives state text symbol command lines e =
    ap (λ (r : Result Line LineFault). and_then (work_of_read state r) (λ next. submitted_by next lines)) e

-- ---- one quote

quote_part : (config : Config) (one : TimedQuote) (rest : List ℕ) (state : FeedState) (commands : List (ℤ × Submission))
    → IsConfig config → HasNames config → IsWritable config one → state.config ≡ config → state.moment ≡ one.moment
    → submitted_by state (cut rest).lines ≡ commands
    → submitted_by state (cut (quote_line config one.symbol one.quote ++ rest)).lines
    ≡ (one.moment, record { symbol = one.symbol; command = one.quote }) ∷ commands
quote_part config one rest state commands is names w c m e =
    let symbol = name_at config.symbols one.symbol in
    let market = name_at config.markets w.market in
    let bid = side_text w.bid in
    let offer = side_text w.offer in
    let text = quote_words symbol market bid offer in
    let symbol_is = all_at (λ name. is_name name ≡ true) config.symbols one.symbol w.symbol_within names.symbols in
    let market_is = all_at (λ name. is_name name ≡ true) config.markets w.market w.market_within names.markets in
    let ps = plain_name symbol symbol_is in
    let pm = plain_name market market_is in
    let pb = plain_fitting w.bid w.bid_fits in
    let po = plain_fitting w.offer w.offer_fits in
    let few : length text ≤ MAX_LINE_BYTES =
    omega (
      arith,
      name_length symbol symbol_is,
      name_length market market_is,
      short_side w.bid w.bid_fits,
      short_side w.offer w.offer_fits,
      length-append (codes "Q " ++ (symbol ++ 32 ∷ []) ++ (market ++ 32 ∷ []) ++ (bid ++ 32 ∷ [])) offer,
      length-append (codes "Q " ++ (symbol ++ 32 ∷ []) ++ (market ++ 32 ∷ [])) (bid ++ 32 ∷ []),
      length-append (codes "Q " ++ (symbol ++ 32 ∷ [])) (market ++ 32 ∷ []),
      length-append (codes "Q ") (symbol ++ 32 ∷ []),
      length-append symbol (32 ∷ []),
      length-append market (32 ∷ []),
      length-append bid (32 ∷ []),
    ) in
    let read : read_of state.config text ≡ Ok (line.Quote one.symbol (Quote w.market w.bid w.offer))
    = ap (λ (k : Config). read_of k text) c
    ∙ quote_read config symbol market bid offer one.symbol w.market w.bid w.offer ps pm pb po few
    (found_name config.symbols symbol one.symbol is.symbols.distinct (named config.symbols one.symbol w.symbol_within))
    (found_name config.markets market w.market is.markets.distinct (named config.markets w.market w.market_within))
    (written_side w.bid w.bid_fits) (written_side w.offer w.offer_fits) in
    let spelled : quote_line config one.symbol one.quote ≡ text ++ 10 ∷ []
    = ap (quote_line config one.symbol) w.quote_is
    ∙ sym (append_assoc (codes "Q " ++ (symbol ++ 32 ∷ []) ++ (market ++ 32 ∷ []) ++ (bid ++ 32 ∷ [])) offer (10 ∷ [])) in
    ap (λ (q : List ℕ). submitted_by state (cut (q ++ rest)).lines) spelled
    ∙ ap (submitted_by state) (line_first text rest (quote_clear symbol market bid offer ps pm pb po))
    ∙ quote_gives state text one.symbol (Quote w.market w.bid w.offer) (cut rest).lines read
    ∙ ap (λ (q : Command). (state.moment, record { symbol = one.symbol; command = q }) ∷ submitted_by state (cut rest).lines) (sym w.quote_is)
    ∙ ap (λ (k : ℤ). (k, record { symbol = one.symbol; command = one.quote }) ∷ submitted_by state (cut rest).lines) m
    ∙ ap (λ (cs : List (ℤ × Submission)). (one.moment, record { symbol = one.symbol; command = one.quote }) ∷ cs) e

moment_part : (moment : ℤ) (rest : List ℕ) (state : FeedState) → FIRST_MOMENT ≤ℤ moment → moment ≤ℤ LAST_MOMENT
    → submitted_by state (cut (moment_line moment ++ rest)).lines ≡ submitted_by (work_of_moment state moment).state (cut rest).lines
moment_part moment rest state low high =
    ap (λ (t : List ℕ). submitted_by state (cut (t ++ rest)).lines) (sym (append_assoc (codes "T ") (moment_text moment) (10 ∷ [])))
    ∙ ap (submitted_by state) (line_first (codes "T " ++ moment_text moment) rest (moment_clear moment))
    ∙ moment_gives state moment (cut rest).lines low high

-- ---- all quotes

-- the moment that stands last is the state's
abbrev pub StandsLast : Option ℤ → ℤ → Type 0
StandsLast None moment = Unit {0}
StandsLast (Some last) moment = last ≡ moment

int_same : (a b : ℤ) → int_eq a b ≡ true → a ≡ b
int_same a b e = grind (arith, ints)

none_read : (state : FeedState) → submitted_by state (cut []).lines ≡ []
unfolding submitted_by cut
none_read state = refl

pub all_read : (config : Config) (last : Option ℤ) (quotes : List TimedQuote) (state : FeedState) → IsConfig config → HasNames config
    → AllByRecursion (IsWritable config) quotes → AllByRecursion IsTimely quotes → state.config ≡ config → StandsLast last state.moment
    → submitted_by state (cut (lines_from config last quotes)).lines ≡ as_commands quotes
all_read config last [] state is names w t c s = none_read state
all_read config None (one ∷ others) state is names w t c s =
    let next = (work_of_moment state one.moment).state in
    let rest = lines_from config (Some one.moment) others in
    ap (λ (text : List ℕ). submitted_by state (cut text).lines) (append_assoc (moment_line one.moment) (quote_line config one.symbol one.quote) rest)
    ∙ moment_part one.moment (quote_line config one.symbol one.quote ++ rest) state t.0.0 t.0.1
    ∙ quote_part config one rest next (as_commands others) is names w.0 c refl
    (all_read config (Some one.moment) others next is names w.1 t.1 c refl)
all_read config (Some before) (one ∷ others) state is names w t c s =
    let next = (work_of_moment state one.moment).state in
    let rest = lines_from config (Some one.moment) others in
    elim (int_eq before one.moment) as (λ b. int_eq before one.moment ≡ b
    → submitted_by state (cut (cond b [] (moment_line one.moment) ++ quote_line config one.symbol one.quote ++ rest)).lines ≡ as_commands (one ∷ others)) [
      | true ↦ λ e.
          let here : state.moment ≡ one.moment = sym s ∙ int_same before one.moment e in
          quote_part config one rest state (as_commands others) is names w.0 c here
          (all_read config (Some one.moment) others state is names w.1 t.1 c (sym here))
      | false ↦ λ e.
          ap (λ (text : List ℕ). submitted_by state (cut text).lines) (append_assoc (moment_line one.moment) (quote_line config one.symbol one.quote) rest)
          ∙ moment_part one.moment (quote_line config one.symbol one.quote ++ rest) state t.0.0 t.0.1
          ∙ quote_part config one rest next (as_commands others) is names w.0 c refl
          (all_read config (Some one.moment) others next is names w.1 t.1 c refl)
    ] refl
