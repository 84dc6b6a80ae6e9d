-- What a watch is told of an event that was worked.
use Rattle.std.proofs.Common.{◌≡◌, ℕ, ◌==◌, List, [], ◌∷◌, ◌++◌, length, drop, sym, ◌∙◌, ap, arith}
use Rattle.std.specs.Prelude.{filter}
use Rattle.std.proofs.lemmas.List.{length-append}
use Rattle.venue_words.specs.declared.config.Config.{Config}
use Rattle.venue_words.specs.declared.command.Event.{Event}
use Rattle.venue_words.specs.declared.report.Report.{Report}
use Rattle.listing.specs.Listing.{RunsAreInOrder}
use Rattle.audit_core.specs.declared.part.OpenPart.{OpenPart}
use Rattle.audit_core.specs.Audited.{run_of}
use Rattle.audit_core.specs.Progress.{IsOpen, Works}
use Rattle.audit_core.specs.Telling.{IsBookOf, IsNext, reports_of_last}
use Rattle.audit_core.proofs.Growing.{last_own}
use Rattle.audit_core.proofs.Working.{adds, news_dropped, reports_before, worked_reports}

pub is_book_of : (config : Config) (symbol : ℕ) (part : OpenPart) → IsOpen config symbol part → IsBookOf config symbol part.book
is_book_of config symbol part opened = record {
  within = opened.within;
  markets = opened.markets;
  tick = opened.tick;
  reports = opened.reports;
  numbered = opened.numbered;
  few = omega (arith, opened.few, opened.counted);
  fits = opened.fits;
}

pub is_next : (Heard : Config → ℕ → List Event → Type 0) (config : Config) (symbol : ℕ) (old new : OpenPart) (event : Event) → IsOpen config symbol new
    → Works old new event → Heard config symbol old.book.journal → IsNext Heard config symbol new.book
is_next Heard config symbol old new event opened works heard = record {
  of = is_book_of config symbol new opened;
  before = old.book.journal;
  event = event;
  journal = works.journal;
  heard = heard;
}

-- the reports behind those that were told are the event's
pub made_last : RunsAreInOrder → (config : Config) (symbol : ℕ) (old new : OpenPart) (event : Event) → IsOpen config symbol old
    → old.told ≡ length old.book.reports → Works old new event
    → drop old.told new.book.reports ≡ reports_of_last config symbol new.book.journal
made_last in_order config symbol old new event opened told works =
    let more = adds config symbol old new event opened works in
    let before = reports_before in_order config symbol old new event opened works in
    let size : length new.book.journal ≡ event.number =
    ap length works.journal ∙ length-append old.book.journal (event ∷ []) ∙ sym works.number in
    let whole : (run_of config symbol new.book.journal).reports ≡ old.book.reports ++ more.0 =
    sym (worked_reports config symbol old new event opened works) ∙ more.1 in
    ap (λ (n : ℕ). drop n new.book.reports) (sym works.told)
    ∙ news_dropped old new event more.0 works told more.1
    ∙ sym (ap (λ (r : List Report). filter (λ report. report.event == length new.book.journal) r) whole
    ∙ ap (λ (n : ℕ). filter (λ report. report.event == n) (old.book.reports ++ more.0)) size
    ∙ last_own event old.book.reports more.0 before more.2)
