-- A journal is walked event by event.
use Rattle.std.proofs.Common.{◌≡◌, ◌<◌, ℕ, ◌+◌, List, ◌∷◌, ◌++◌, length, take, drop, get_or, sym, ◌∙◌, ap, add-one}
use Rattle.std.proofs.Math.Seq.{drop-cons}
use Rattle.venue_words.specs.declared.command.Event.{Event}
use Rattle.venue_words.specs.declared.config.Config.{Config}
use Rattle.venue_words.specs.declared.report.Report.{Report}
use Rattle.listing.specs.Listing.{event_text}
use Rattle.listing.specs.Walking.{count_of, walked}

first_of : (journal : List Event) (i : ℕ) (event : Event) → i < length journal → event ≡ get_or journal i event
    → drop i journal ≡ event ∷ drop (i + 1) journal
first_of journal i event lt is =
    drop-cons journal i event lt ∙ (λ k. sym is k ∷ drop (sym (add-one i) k) journal)

pub walk_step : (config : Config) (symbol : ℕ) (journal : List Event) (i : ℕ) (event : Event) (reports : List Report)
    → i < length journal → event ≡ get_or journal i event
    → walked config symbol (drop i journal) reports
    ≡ event_text config symbol event (take (count_of event.number reports) reports)
    ++ walked config symbol (drop (i + 1) journal) (drop (count_of event.number reports) reports)
walk_step config symbol journal i event reports lt is =
    ap (λ (events : List Event). walked config symbol events reports) (first_of journal i event lt is)
