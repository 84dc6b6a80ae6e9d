-- An event that was worked is the next one of its part.
use Rattle.std.proofs.Common.{◌≡◌, ◌≤◌, ℕ, true, List, [], ◌∷◌, ◌++◌, length, drop, refl, sym, ◌∙◌, ap, subst, append_assoc, arith}
use Rattle.std.specs.List.{AllByRecursion, flat_map}
use Rattle.std.proofs.lemmas.List.{length-append}
use Rattle.std.proofs.Math.Seq.{drop-append_seam}
use Rattle.venue_words.specs.declared.config.Config.{Config}
use Rattle.venue_words.specs.declared.command.Event.{Event}
use Rattle.venue_words.specs.declared.report.Report.{Report}
use Rattle.venue_words.specs.ListLaws.{all_append}
use Rattle.eager_meaning.specs.Step.{runs}
use Rattle.listing.specs.Commands.{name_at}
use Rattle.listing.specs.Lines.{symbol_line, event_line, ended}
use Rattle.listing.specs.Listing.{RunsAreInOrder, event_text, reports_for}
use Rattle.listing_reader.specs.declared.lines.Counts.{Counts}
use Rattle.listing_reader.specs.Fitting.{fits_event, fits_command, fits_number, fits_moment}
use Rattle.std.proofs.lemmas.Bool.{and_parts}
use Rattle.venue_words.specs.Conditions.{fits_limits}
use Rattle.venue_words.specs.Floors.{setup_of, is_configured}
use Rattle.venue_words.specs.declared.command.Command.{Command}
use Rattle.venue_words.specs.declared.command.Command.TheVariants.{Quote, New, Cancel, Replace, Status}
use Rattle.symbol_book.specs.Commands.{takes_command}
use Rattle.audit_core.specs.declared.part.OpenPart.{OpenPart}
use Rattle.audit_core.specs.Audited.{run_of, tick_at}
use Rattle.audit_core.specs.Progress.{IsOpen, Grows, Works, report_lines, part_front}
use Rattle.audit_core.proofs.Growing.{IsBefore, events_grow, runs_more, runs_before}

-- the reports that the event made
pub adds : (config : Config) (symbol : ℕ) (old new : OpenPart) (event : Event) → IsOpen config symbol old → Works old new event
    → (news : List Report) × (new.book.reports ≡ old.book.reports ++ news) × AllByRecursion (λ report. report.event ≡ event.number) news
adds config symbol old new event opened works =
    let more = runs_more (length config.markets) (tick_at config symbol) old.book.journal event in
    let made : new.book.reports ≡ (runs (length config.markets) (tick_at config symbol) (old.book.journal ++ event ∷ [])).reports =
    rw (← opened.markets, ← opened.tick) works.reports in
    (more.news, made ∙ more.grown ∙ ap (λ (r : List Report). r ++ more.news) (sym opened.reports), more.own)

pub worked_reports : (config : Config) (symbol : ℕ) (old new : OpenPart) (event : Event) → IsOpen config symbol old → Works old new event
    → new.book.reports ≡ (run_of config symbol new.book.journal).reports
worked_reports config symbol old new event opened works = rw (works.journal, ← opened.markets, ← opened.tick) works.reports

pub opens_more : (config : Config) (symbol : ℕ) (old new : OpenPart) (event : Event) → IsOpen config symbol old
    → fits_event config event ≡ true → old.told ≡ length old.book.reports → Works old new event
    → length new.book.journal ≤ new.counts.events → IsOpen config symbol new
opens_more config symbol old new event opened fits told works counted =
    let more = adds config symbol old new event opened works in
    let events : AllByRecursion (λ event. fits_event config event ≡ true) (old.book.journal ++ event ∷ []) =
    all_append (λ event. fits_event config event ≡ true) old.book.journal (event ∷ []) opened.fits (fits, tt) in record {
      within = opened.within;
      markets = works.markets ∙ opened.markets;
      tick = works.tick ∙ opened.tick;
      limit = works.limit ∙ opened.limit;
      reports = worked_reports config symbol old new event opened works;
      numbered = works.numbered;
      fits = subst (AllByRecursion (λ event. fits_event config event ≡ true)) (sym works.journal) events;
      told = omega (arith, works.told, told, ap (λ (r : List Report). length r) more.1, length-append old.book.reports more.0);
      few = rw works.counts opened.few;
      counted = counted;
    }

-- the reports that there were are of earlier events
pub reports_before : RunsAreInOrder → (config : Config) (symbol : ℕ) (old new : OpenPart) (event : Event) → IsOpen config symbol old → Works old new event
    → AllByRecursion (IsBefore event.number) old.book.reports
reports_before in_order config symbol old new event opened works =
    subst (AllByRecursion (IsBefore event.number)) (sym opened.reports)
    (subst (λ (n : ℕ). AllByRecursion (IsBefore n) (run_of config symbol old.book.journal).reports) (sym works.number)
    (runs_before in_order (length config.markets) (tick_at config symbol) old.book.journal opened.numbered))

-- those that are still to be told are the event's
pub news_dropped : (old new : OpenPart) (event : Event) (news : List Report) → Works old new event → old.told ≡ length old.book.reports
    → new.book.reports ≡ old.book.reports ++ news → drop new.told new.book.reports ≡ news
news_dropped old new event news works told more =
    ap (λ (n : ℕ). drop n new.book.reports) (works.told ∙ told) ∙ ap (drop (length old.book.reports)) more ∙ drop-append_seam old.book.reports news

abbrev front_of : Config → ℕ → Counts → List Event → List Report → List ℕ
front_of config symbol counts journal reports =
    ended (symbol_line (name_at config.symbols symbol) counts.events counts.reports)
    ++ flat_map (λ event. event_text config symbol event (reports_for event reports)) journal

pub grows_by : RunsAreInOrder → (config : Config) (symbol : ℕ) (old new : OpenPart) (event : Event) → IsOpen config symbol old
    → old.told ≡ length old.book.reports → Works old new event → Grows config symbol old new event
grows_by in_order config symbol old new event opened told works =
    let more = adds config symbol old new event opened works in
    let before = reports_before in_order config symbol old new event opened works in
    let rest = news_dropped old new event more.0 works told more.1 in
    let head = ended (symbol_line (name_at config.symbols symbol) old.counts.events old.counts.reports) in
    let text = flat_map (λ event. event_text config symbol event (reports_for event old.book.reports)) old.book.journal in record {
      counts = works.counts;
      told = works.told;
      front = ap (λ (c : Counts). front_of config symbol c new.book.journal new.book.reports) works.counts
          ∙ ap (λ (j : List Event). front_of config symbol old.counts j new.book.reports) works.journal
          ∙ ap (λ (r : List Report). front_of config symbol old.counts (old.book.journal ++ event ∷ []) r) more.1
          ∙ ap (λ (l : List ℕ). head ++ l) (events_grow config symbol old.book.journal event old.book.reports more.0 opened.numbered works.number before more.2)
          ∙ sym (append_assoc head text (ended (event_line config symbol event) ++ report_lines config symbol more.0))
          ∙ ap (λ (r : List Report). part_front config symbol old ++ (ended (event_line config symbol event) ++ report_lines config symbol r)) (sym rest);
    }

-- ---- the book takes what fits

takes_when : (config : Config) (command : Command) → is_configured (setup_of config) command ≡ true → fits_limits command ≡ true
    → takes_command (length config.markets) command ≡ true
takes_when config (Quote market bid offer) configured limits = rw limits configured
takes_when config (New member id terms) configured limits = rw limits refl
takes_when config (Cancel member id orig) configured limits = rw limits refl
takes_when config (Replace member id orig terms) configured limits = rw limits refl
takes_when config (Status member id side) configured limits = rw limits refl

pub takes_event : (config : Config) (event : Event) → fits_event config event ≡ true → takes_command (length config.markets) event.command ≡ true
unfolding fits_event fits_command
takes_event config event fits =
    let command = and_parts (fits_moment event.moment) _ (and_parts (fits_number event.feed) _ (and_parts (fits_number event.number) _ fits).1).1 in
    let parts = and_parts (is_configured (setup_of config) event.command) _ command.1 in
    let limits = and_parts (fits_limits event.command) _ parts.1 in
    takes_when config event.command parts.0 limits.0
