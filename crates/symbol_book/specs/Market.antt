-- What holds of the reports at each event of a journal.
use Rattle.std.specs.Prelude.{◌≡◌, ℕ, List, [], ◌∷◌, ◌++◌}
use Rattle.std.specs.List.{AllByRecursion}
use Rattle.venue_words.specs.declared.command.Command.TheVariants.{New}
use Rattle.venue_words.specs.declared.command.Event.{Event}
use Rattle.venue_words.specs.declared.terms.Terms.{Terms}
use Rattle.venue_words.specs.declared.report.Report.{Report}
use Rattle.venue_words.specs.Best.{best_of}
use Rattle.eager_meaning.specs.Step.{runs}
use Rattle.market_laws.specs.Replies.{AreToldBy, IsAnsweredOnce, rule_broken}
use Rattle.market_laws.specs.Trading.{IsPricedWithin}

-- at each event, the reports that it adds tell trades within the national quote after it
abbrev pub TradesWithinQuote : ℕ → ℕ → List Event → Type 0
TradesWithinQuote markets tick journal =
    (before : List Event) (event : Event) (after : List Event)
    → journal ≡ before ++ event ∷ after
    → (told : List Report)
    × AreToldBy markets tick before event told
    × AllByRecursion
    (λ report. IsPricedWithin (best_of (runs markets tick (before ++ event ∷ [])).state.markets) report.kind) told

-- at each New, the reports that it adds acknowledge or reject it once, at place 1, by the first rule that it breaks
abbrev pub EachNewAnswered : ℕ → ℕ → List Event → Type 0
EachNewAnswered markets tick journal =
    (before : List Event) (event : Event) (after : List Event) (member : ℕ) (id : List ℕ) (terms : Terms)
    → journal ≡ before ++ event ∷ after
    → event.command ≡ New member id terms
    → (told : List Report)
    × AreToldBy markets tick before event told
    × IsAnsweredOnce event.number member id terms (rule_broken tick (runs markets tick before).state member id terms) told
