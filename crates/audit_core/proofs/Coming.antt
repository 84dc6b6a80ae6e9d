-- Which line comes next where a listing is awaited, and what is awaited behind it.
use Rattle.std.proofs.Common.{◌≡◌, ◌≤◌, ◌<◌, ℕ, zero, suc, ◌+◌, ◌*◌, ◌⊎◌, inl, inr, true, false, List, [], ◌∷◌, ◌++◌, length, drop, slice_get, Some, refl, sym, ◌∙◌, ap, subst, append_assoc, append-nil, arith}
use Rattle.std.specs.List.{AllByRecursion}
use Rattle.std.proofs.lemmas.Bool.{lt-ltb}
use Rattle.std.proofs.lemmas.Bool.Decides.{nat_tests}
use Rattle.std.proofs.lemmas.List.{length-append, drop_all}
use Rattle.venue_words.specs.Conditions.{IsConfig}
use Rattle.venue_words.specs.declared.config.Config.{Config}
use Rattle.venue_words.specs.declared.command.Event.{Event}
use Rattle.venue_words.specs.declared.report.Report.{Report}
use Rattle.eager_meaning.specs.Step.{IsNumbered, runs}
use Rattle.market_laws.specs.Reports.{ReportsAreFew}
use Rattle.script_text.specs.Lines.{has_end}
use Rattle.listing.specs.Commands.{name_at}
use Rattle.listing.specs.Lines.{symbol_line, event_line, ended}
use Rattle.listing.specs.Listing.{Part, RunsAreInOrder, listing_from, reports_for}
use Rattle.listing_reader.specs.declared.lines.Counts.{Counts}
use Rattle.listing_reader.specs.Fitting.{fits_event, fits_number}
use Rattle.audit_core.specs.declared.part.OpenPart.{OpenPart}
use Rattle.audit_core.specs.Audited.{AreParts, limit_at, tick_at, run_of}
use Rattle.audit_core.specs.Names.{has_line_names}
use Rattle.audit_core.specs.Ahead.{CountsAre, Completes, CompletesFrom, event_lines}
use Rattle.audit_core.specs.Progress.{IsOpen, IsRead, Works, is_allowed, report_lines}
use Rattle.audit_core.proofs.Growing.{IsAfter, own_reports, runs_go_on}
use Rattle.audit_core.proofs.Working.{adds, news_dropped, reports_before, worked_reports}
use Rattle.audit_core.proofs.Clearing.{event_clear, symbol_clear}
use Rattle.audit_core.proofs.Awaiting.{same_line, no_line, front_of_part, event_front, all_was_read, limit_small}

-- ---- the line of a symbol

-- the line is that of the symbol whose part comes next
pub record SymbolComes (config : Config) (symbol : ℕ) (text more : List ℕ) : Type 0 where
  pub within : symbol < length config.symbols
  pub counts : Counts
  pub line : symbol_line (name_at config.symbols symbol) counts.events counts.reports ≡ text
  pub few : fits_number counts.events ≡ true
  pub short : fits_number counts.reports ≡ true
  pub below : counts.events ≤ limit_at config symbol
  pub room : (1 ≤ counts.events) ⊎ (counts.reports ≡ 0)
  pub next : (part : OpenPart) → part.counts ≡ counts → part.told ≡ 0 → part.book.journal ≡ [] → part.book.reports ≡ [] → Completes config symbol part more

some_or_none : (n m : ℕ) → m ≤ 4 * n → (1 ≤ n) ⊎ (m ≡ 0)
some_or_none zero m h = inr (omega arith)
some_or_none (suc n) m h = inl (omega arith)

-- the first part of those that are awaited
first_part : (config : Config) (symbol : ℕ) (text more : List ℕ) (part : Part) (parts : List Part) → ReportsAreFew → IsConfig config → has_line_names config ≡ true
    → has_end text ≡ false → symbol + length (part ∷ parts) ≡ length config.symbols → AreParts config symbol (part ∷ parts)
    → ended text ++ more ≡ listing_from config symbol (part ∷ parts) → SymbolComes config symbol text more
first_part config symbol text more part parts are_few is names clear each made spelled =
    let run = run_of config symbol part.journal in
    let within : symbol < length config.symbols = omega (arith, each) in
    let limit = limit_small config symbol is within in
    let total = are_few (length config.markets) (tick_at config symbol) part.journal made.0.numbered in
    let told : length part.reports ≡ length run.reports = ap length made.0.reports in
    let most : length part.reports ≤ 4 * length part.journal = omega (arith, total, told) in
    let few : fits_number (length part.journal) ≡ true = lt-ltb _ _ (omega (arith, limit, made.0.few)) in
    let short : fits_number (length part.reports) ≡ true = lt-ltb _ _ (omega (arith, limit, made.0.few, most)) in
    let same = same_line text (symbol_line (name_at config.symbols symbol) (length part.journal) (length part.reports)) more
    (event_lines config symbol part.journal part.reports ++ listing_from config (symbol + 1) parts) clear
    (symbol_clear config symbol (length part.journal) (length part.reports) names few short) (spelled ∙ front_of_part config symbol part parts) in
    record {
      within = within;
      counts = record { events = length part.journal; reports = length part.reports };
      line = sym same.0;
      few = few;
      short = short;
      below = made.0.few;
      room = some_or_none (length part.journal) (length part.reports) most;
      next = λ opened counts none journal reports.
          let whole : opened.book.journal ++ part.journal ≡ part.journal = ap (λ (j : List Event). j ++ part.journal) journal in
          record {
            later = part.journal;
            parts = parts;
            counts = record {
              numbered = subst IsNumbered (sym whole) made.0.numbered;
              few = subst (λ (j : List Event). length j ≤ limit_at config symbol) (sym whole) made.0.few;
              events = ap (λ (c : Counts). c.events) counts ∙ ap length (sym whole);
              reports = ap (λ (c : Counts). c.reports) counts ∙ told ∙ ap (λ (j : List Event). length (run_of config symbol j).reports) (sym whole);
            };
            fits = made.0.fits;
            each = omega (arith, each);
            made = made.1;
            spelled = same.1
                ∙ ap (λ (r : List Report). event_lines config symbol part.journal r ++ listing_from config (symbol + 1) parts)
                (made.0.reports ∙ ap (λ (j : List Event). (run_of config symbol j).reports) (sym whole))
                ∙ ap (λ (r : List Report). report_lines config symbol r
                ++ (event_lines config symbol part.journal (run_of config symbol (opened.book.journal ++ part.journal)).reports ++ listing_from config (symbol + 1) parts))
                (sym (ap (drop opened.told) reports ∙ drop_nil opened.told));
          };
    }
  where
    drop_nil : (n : ℕ) → drop n (let none : List Report = [] in none) ≡ []
    drop_nil n = drop_all n [] (omega arith)

pub symbol_comes : (config : Config) (symbol : ℕ) (text more : List ℕ) → ReportsAreFew → IsConfig config → has_line_names config ≡ true
    → has_end text ≡ false → CompletesFrom config symbol (ended text ++ more) → SymbolComes config symbol text more
symbol_comes config symbol text more are_few is names clear completes =
    elim completes.parts as (λ (parts : List Part). symbol + length parts ≡ length config.symbols → AreParts config symbol parts
    → ended text ++ more ≡ listing_from config symbol parts → SymbolComes config symbol text more) [
      | [] ↦ λ each made spelled. absurd (no_line text more [] (sym spelled) refl)
      | (part ∷ parts) ↦ λ each made spelled. first_part config symbol text more part parts are_few is names clear each made spelled
    ] completes.each completes.made completes.spelled

-- ---- the line of a report

-- all that is awaited begins with the line of the report that comes next
pub report_expected : (config : Config) (symbol : ℕ) (part : OpenPart) (line more : List ℕ)
    → report_lines config symbol (drop part.told part.book.reports) ≡ ended line ++ report_lines config symbol (drop (part.told + 1) part.book.reports)
    → (awaited : Completes config symbol part more)
    → more ≡ ended line ++ (report_lines config symbol (drop (part.told + 1) part.book.reports)
    ++ (event_lines config symbol awaited.later (run_of config symbol (part.book.journal ++ awaited.later)).reports ++ listing_from config (symbol + 1) awaited.parts))
report_expected config symbol part line more next awaited =
    let rest = event_lines config symbol awaited.later (run_of config symbol (part.book.journal ++ awaited.later)).reports ++ listing_from config (symbol + 1) awaited.parts in
    awaited.spelled ∙ ap (λ (t : List ℕ). t ++ rest) next
    ∙ append_assoc (ended line) (report_lines config symbol (drop (part.told + 1) part.book.reports)) rest

pub report_comes : (config : Config) (symbol : ℕ) (part next : OpenPart) (line text more : List ℕ)
    → next.book ≡ part.book → next.counts ≡ part.counts → next.told ≡ part.told + 1
    → report_lines config symbol (drop part.told part.book.reports) ≡ ended line ++ report_lines config symbol (drop (part.told + 1) part.book.reports)
    → has_end line ≡ false → has_end text ≡ false → Completes config symbol part (ended text ++ more) → (text ≡ line) × Completes config symbol next more
report_comes config symbol part next line text more book counts told lines clear_line clear awaited =
    let all = run_of config symbol (part.book.journal ++ awaited.later) in
    let rest = event_lines config symbol awaited.later all.reports ++ listing_from config (symbol + 1) awaited.parts in
    let same = same_line text line more (report_lines config symbol (drop (part.told + 1) part.book.reports) ++ rest) clear clear_line
    (report_expected config symbol part line (ended text ++ more) lines awaited) in (
      same.0,
      record {
        later = awaited.later;
        parts = awaited.parts;
        counts = record {
          numbered = rw book awaited.counts.numbered;
          few = rw book awaited.counts.few;
          events = rw (book, counts) awaited.counts.events;
          reports = rw (book, counts) awaited.counts.reports;
        };
        fits = awaited.fits;
        each = awaited.each;
        made = awaited.made;
        spelled = rw (book, told) same.1;
      },
    )

-- ---- the line of an event

-- the line is that of the event that comes next
pub record EventComes (config : Config) (symbol : ℕ) (part : OpenPart) (text more : List ℕ) : Type 0 where
  pub event : Event
  pub later : List Event
  pub fits : fits_event config event ≡ true
  pub line : event_line config symbol event ≡ text
  pub counts : CountsAre config symbol part (event ∷ later)
  pub next : (new : OpenPart) → Works part new event → Completes config symbol new more

-- where an event is worked, the counts are those of the journal that goes on behind it
pub counts_later : (config : Config) (symbol : ℕ) (old new : OpenPart) (event : Event) (later : List Event) → Works old new event
    → CountsAre config symbol old (event ∷ later) → CountsAre config symbol new later
counts_later config symbol old new event later works counts =
    let whole : new.book.journal ++ later ≡ old.book.journal ++ event ∷ later =
    ap (λ (j : List Event). j ++ later) works.journal ∙ append_assoc old.book.journal (event ∷ []) later in
    record {
      numbered = subst IsNumbered (sym whole) counts.numbered;
      few = subst (λ (j : List Event). length j ≤ limit_at config symbol) (sym whole) counts.few;
      events = ap (λ (c : Counts). c.events) works.counts ∙ counts.events ∙ ap length (sym whole);
      reports = ap (λ (c : Counts). c.reports) works.counts ∙ counts.reports ∙ ap (λ (j : List Event). length (run_of config symbol j).reports) (sym whole);
    }

-- the reports of an event among those of the whole journal are those that it made when it was worked
news_told : RunsAreInOrder → (config : Config) (symbol : ℕ) (old new : OpenPart) (event : Event) (later : List Event) → IsOpen config symbol old
    → old.told ≡ length old.book.reports → Works old new event → IsNumbered (old.book.journal ++ event ∷ later)
    → reports_for event (run_of config symbol (old.book.journal ++ event ∷ later)).reports ≡ drop new.told new.book.reports
news_told in_order config symbol old new event later opened told works numbered =
    let markets = length config.markets in
    let tick = tick_at config symbol in
    let journal = old.book.journal in
    let added = adds config symbol old new event opened works in
    let before = reports_before in_order config symbol old new event opened works in
    let whole : (journal ++ event ∷ []) ++ later ≡ journal ++ event ∷ later = append_assoc journal (event ∷ []) later in
    let on = runs_go_on markets tick (journal ++ event ∷ []) later (subst IsNumbered (sym whole) numbered) in
    let size : length (journal ++ event ∷ []) ≡ event.number = length-append journal (event ∷ []) ∙ sym works.number in
    let after : AllByRecursion (IsAfter event.number) on.news = subst (λ (n : ℕ). AllByRecursion (IsAfter n) on.news) size on.after in
    let made : new.book.reports ≡ (runs markets tick (journal ++ event ∷ [])).reports = rw (← opened.markets, ← opened.tick) works.reports in
    let all : (runs markets tick (journal ++ event ∷ later)).reports ≡ (old.book.reports ++ added.0) ++ on.news =
    ap (λ (j : List Event). (runs markets tick j).reports) (sym whole) ∙ on.grown ∙ ap (λ (r : List Report). r ++ on.news) (sym made ∙ added.1) in
    let rest = news_dropped old new event added.0 works told added.1 in
    ap (reports_for event) all ∙ own_reports event old.book.reports added.0 on.news before added.2 after ∙ sym rest

next_event : RunsAreInOrder → (config : Config) (symbol : ℕ) (part : OpenPart) (text more : List ℕ) (event : Event) (later : List Event) (parts : List Part)
    → has_line_names config ≡ true → IsOpen config symbol part → part.told ≡ length part.book.reports → has_end text ≡ false
    → CountsAre config symbol part (event ∷ later) → AllByRecursion (λ event. fits_event config event ≡ true) (event ∷ later)
    → symbol + 1 + length parts ≡ length config.symbols → AreParts config (symbol + 1) parts
    → ended text ++ more ≡ event_lines config symbol (event ∷ later) (run_of config symbol (part.book.journal ++ event ∷ later)).reports ++ listing_from config (symbol + 1) parts
    → EventComes config symbol part text more
next_event in_order config symbol part text more event later parts names opened told clear counts fits each made spelled =
    let all = (run_of config symbol (part.book.journal ++ event ∷ later)).reports in
    let rest = event_lines config symbol later all ++ listing_from config (symbol + 1) parts in
    let same = same_line text (event_line config symbol event) more (report_lines config symbol (reports_for event all) ++ rest) clear
    (event_clear config symbol event names fits.0) (spelled ∙ event_front config symbol event later all (listing_from config (symbol + 1) parts)) in
    record {
      event = event;
      later = later;
      fits = fits.0;
      line = sym same.0;
      counts = counts;
      next = λ new works.
          let whole : new.book.journal ++ later ≡ part.book.journal ++ event ∷ later =
          ap (λ (j : List Event). j ++ later) works.journal ∙ append_assoc part.book.journal (event ∷ []) later in
          record {
            later = later;
            parts = parts;
            counts = counts_later config symbol part new event later works counts;
            fits = fits.1;
            each = each;
            made = made;
            spelled = same.1
                ∙ ap (λ (r : List Report). report_lines config symbol r ++ rest) (news_told in_order config symbol part new event later opened told works counts.numbered)
                ∙ ap (λ (j : List Event). report_lines config symbol (drop new.told new.book.reports)
                ++ (event_lines config symbol later (run_of config symbol j).reports ++ listing_from config (symbol + 1) parts)) (sym whole);
          };
    }

pub event_comes : RunsAreInOrder → (config : Config) (symbol : ℕ) (part : OpenPart) (text more : List ℕ) → has_line_names config ≡ true
    → IsOpen config symbol part → part.told ≡ length part.book.reports → has_end text ≡ false → (IsRead part → ⊥)
    → Completes config symbol part (ended text ++ more) → EventComes config symbol part text more
event_comes in_order config symbol part text more names opened told clear unread awaited =
    let none : drop part.told part.book.reports ≡ [] = drop_all part.told part.book.reports (omega (arith, told)) in
    let spelled : ended text ++ more ≡ event_lines config symbol awaited.later (run_of config symbol (part.book.journal ++ awaited.later)).reports
    ++ listing_from config (symbol + 1) awaited.parts =
    awaited.spelled ∙ ap (λ (r : List Report). report_lines config symbol r
    ++ (event_lines config symbol awaited.later (run_of config symbol (part.book.journal ++ awaited.later)).reports ++ listing_from config (symbol + 1) awaited.parts)) none in
    elim awaited.later as (λ (later : List Event). CountsAre config symbol part later → AllByRecursion (λ event. fits_event config event ≡ true) later
    → ended text ++ more ≡ event_lines config symbol later (run_of config symbol (part.book.journal ++ later)).reports ++ listing_from config (symbol + 1) awaited.parts
    → EventComes config symbol part text more) [
      | [] ↦ λ counts fits spelled. absurd (unread (all_was_read config symbol part opened counts told))
      | (event ∷ later) ↦ λ counts fits spelled.
          next_event in_order config symbol part text more event later awaited.parts names opened told clear counts fits awaited.each awaited.made spelled
    ] awaited.counts awaited.fits spelled

-- ---- what refuses an event

-- where the counts of the line do not allow the part, they are those of no journal that goes on behind it
not_allowed : (config : Config) (symbol : ℕ) (part : OpenPart) (later : List Event) → part.book.reports ≡ (run_of config symbol part.book.journal).reports
    → is_allowed part ≡ false → CountsAre config symbol part later → ⊥
not_allowed config symbol part [] made refused counts =
    let same : part.book.journal ++ [] ≡ part.book.journal = append-nil part.book.journal in
    let events : length part.book.journal ≡ part.counts.events = sym (counts.events ∙ ap length same) in
    let reports : length part.book.reports ≡ part.counts.reports =
    ap length made ∙ sym (counts.reports ∙ ap (λ (j : List Event). length (run_of config symbol j).reports) same) in
    grind (arith, nat_tests, refused, events, reports)
not_allowed config symbol part (event ∷ later) made refused counts =
    let more = runs_go_on (length config.markets) (tick_at config symbol) part.book.journal (event ∷ later) counts.numbered in
    let events : length part.book.journal < part.counts.events = omega (arith, counts.events, length-append part.book.journal (event ∷ later)) in
    let reports : length part.book.reports ≤ part.counts.reports =
    omega (arith, counts.reports, ap length made, ap length more.grown, length-append (run_of config symbol part.book.journal).reports more.news) in
    grind (arith, nat_tests, refused, events, reports)

pub none_allowed : (config : Config) (symbol : ℕ) (old new : OpenPart) (event : Event) (later : List Event) → IsOpen config symbol old → Works old new event
    → is_allowed new ≡ false → CountsAre config symbol old (event ∷ later) → ⊥
none_allowed config symbol old new event later opened works refused counts =
    not_allowed config symbol new later (worked_reports config symbol old new event opened works) refused
    (counts_later config symbol old new event later works counts)

-- the next event has the next number, and there is room for it
pub next_number : (config : Config) (symbol : ℕ) (part : OpenPart) (event : Event) (later : List Event) → CountsAre config symbol part (event ∷ later)
    → (event.number ≡ length part.book.journal + 1) × (length part.book.journal < part.counts.events) × (length part.book.journal < limit_at config symbol)
next_number config symbol part event later counts = (
  counts.numbered (length part.book.journal) event (get_behind part.book.journal event later),
  omega (arith, counts.events, length-append part.book.journal (event ∷ later)),
  omega (arith, counts.few, length-append part.book.journal (event ∷ later)),
)
  where
    get_behind : (xs : List Event) (x : Event) (ys : List Event) → slice_get (xs ++ x ∷ ys) (length xs) ≡ Some x
    get_behind [] x ys = refl
    get_behind (y ∷ xs) x ys = get_behind xs x ys
