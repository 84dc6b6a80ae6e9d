-- What each event keeps holds after every history.
use Rattle.std.proofs.Common.{◌≡◌, ℕ, ◌+◌, List, [], ◌∷◌, ◌++◌, refl, ap, sym, ◌∙◌, subst, arith}
use Rattle.std.specs.Prelude.{fold}
use Rattle.std.specs.List.{AllByRecursion}
use Rattle.std.proofs.lemmas.List.Sums.{sum_by-append}
use Rattle.venue_words.specs.declared.command.Event.{Event}
use Rattle.venue_words.specs.declared.price.Side.{Side}
use Rattle.venue_words.specs.declared.price.Side.TheVariants.{Buy, Sell}
use Rattle.venue_words.specs.declared.report.Report.{Report}
use Rattle.venue_words.specs.Best.{best_of}
use Rattle.eager_meaning.specs.declared.notice.Notice.{Notice}
use Rattle.eager_meaning.specs.State.{State, Outcome}
use Rattle.eager_meaning.specs.Step.{Run, runs, step, outcome_of, reports_from}
use Rattle.market_laws.specs.Fitting.{RowsArePlaced}
use Rattle.market_laws.specs.Placed.{AreWorthAtMost, IsPlacedBook}
use Rattle.market_laws.specs.Trading.{shares_on, shares_traded, BoughtSharesAreSold, IsPricedWithin, TradesAreWithinQuote}
use Rattle.market_laws.proofs.Growing.{runs_append}
use Rattle.market_laws.proofs.Replying.{told_by}
use Rattle.market_laws.proofs.Telling.{told_reports, priced_reports}
use Rattle.market_laws.proofs.Settling.{outcome_fair}

-- a run whose rows are in place, and which told as many shares bought as sold
record IsEven (run : Run) : Type 0 where
  rows : IsPlacedBook run.state
  same : shares_traded Buy run.reports ≡ shares_traded Sell run.reports

step_even : (tick : ℕ) (run : Run) (event : Event) → IsEven run → IsEven (step tick run event)
unfolding step
step_even tick run event is =
    let fair = outcome_fair tick event.number event.command run.state is.rows in
    let notices : List Notice = (outcome_of tick event.number event.command run.state).notices in
    let told = λ (side : Side).
    sum_by-append (λ (report : Report). shares_on side report.kind) run.reports (reports_from 1 event notices)
    ∙ ap (λ n. shares_traded side run.reports + n) (told_reports side 1 event notices) in
    record { rows = fair.state; same = (let e = fair.even in let old = is.same in omega (arith, told Buy, told Sell)) }

all_even : (tick : ℕ) (run : Run) (events : List Event) → IsEven run → IsEven (fold (step tick) run events)
all_even tick run [] is = is
all_even tick run (event ∷ events) is = all_even tick (step tick run event) events (step_even tick run event is)

no_worth : AreWorthAtMost []
no_worth k order e = cc

runs_even : (markets tick : ℕ) (history : List Event) → IsEven (runs markets tick history)
unfolding runs
runs_even markets tick history = all_even tick _ history (record { rows = record { buys = tt; sells = tt; worth = no_worth }; same = refl })

pub bought_are_sold : BoughtSharesAreSold
bought_are_sold markets tick history = (runs_even markets tick history).same

pub rows_placed : RowsArePlaced
rows_placed markets tick history = (runs_even markets tick history).rows

state_after : (markets tick : ℕ) (history : List Event) (event : Event) → (runs markets tick (history ++ event ∷ [])).state ≡ (outcome_of tick event.number event.command (runs markets tick history).state).state
unfolding step
state_after markets tick history event = ap (λ (r : Run). r.state) (runs_append markets tick history (event ∷ []))

pub trades_within_quote : TradesAreWithinQuote
trades_within_quote markets tick history event =
    let s : State = (runs markets tick history).state in
    let outcome : Outcome = outcome_of tick event.number event.command s in
    let fair = outcome_fair tick event.number event.command s (runs_even markets tick history).rows in
    let told : List Report = reports_from 1 event outcome.notices in (
      told,
      told_by markets tick history event,
      subst (λ (after : State). AllByRecursion (λ (report : Report). IsPricedWithin (best_of after.markets) report.kind) told) (sym (state_after markets tick history event))
          (priced_reports (best_of outcome.state.markets) 1 event outcome.notices fair.priced),
    )
