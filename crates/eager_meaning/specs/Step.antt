-- What each event does to a symbol's book, and the reports of a whole history.
use Rattle.std.specs.Prelude.{◌≡◌, ℕ, ◌+◌, List, [], ◌∷◌, ◌++◌, fold, slice_get, Some, None}
use Rattle.std.specs.Option.{option_map_or}
use Rattle.venue_words.specs.declared.command.Event.{Event}
use Rattle.venue_words.specs.declared.command.Command.{Command}
use Rattle.venue_words.specs.declared.command.Command.TheVariants.{Quote, New, Cancel, Replace, Status as Request}
use Rattle.venue_words.specs.declared.report.Report.{Report}
use Rattle.venue_words.specs.declared.report.View.{View}
use Rattle.venue_words.specs.declared.report.Execution.TheVariants.{Status}
use Rattle.venue_words.specs.declared.report.Kind.TheVariants.{Order as OrderReport, Unknown}
use Rattle.eager_meaning.specs.declared.order.Order.{Order}
use Rattle.eager_meaning.specs.declared.notice.Notice.{Notice}
use Rattle.eager_meaning.specs.State.{State, Outcome, resting, initial, with_notice}
use Rattle.eager_meaning.specs.Showing.{view_of, row_of_order}
use Rattle.eager_meaning.specs.Orders.{order_named, live_named, is_used, known_of}
use Rattle.eager_meaning.specs.Verdict.{verdict}
use Rattle.eager_meaning.specs.Quoting.{on_quote}
use Rattle.eager_meaning.specs.Entering.{on_new}
use Rattle.eager_meaning.specs.Changing.{on_cancel, on_replace}

-- an order as it is now, live or not
abbrev pub view_now : State → ℕ × Order → View
view_now s found = view_of found.1 (row_of_order found.0 (resting s))

-- a request for the status of the member's order with this id
unfoldable pub on_status : ℕ → List ℕ → ℕ → State → Outcome
on_status member id side s =
    with_notice member
    (option_map_or (λ found. OrderReport (view_now s found) Status) (order_named member id s.orders) (Unknown id side)) s

-- what a command does at an event, in the book of a symbol with this tick
unfoldable pub outcome_of : ℕ → ℕ → Command → State → Outcome
outcome_of tick event (Quote market bid offer) s = on_quote event market (record { bid = bid; offer = offer }) s
outcome_of tick event (New member id terms) s =
    let broken = verdict (New member id terms) (known_of tick (is_used member id s.used) None) in
    on_new tick event member id terms broken s
outcome_of tick event (Cancel member id orig) s =
    let live = live_named member orig s.orders (resting s) in
    let broken = verdict (Cancel member id orig) (known_of tick (is_used member id s.used) live) in
    on_cancel member id orig live broken s
outcome_of tick event (Replace member id orig terms) s =
    let live = live_named member orig s.orders (resting s) in
    let broken = verdict (Replace member id orig terms) (known_of tick (is_used member id s.used) live) in
    on_replace tick event member id orig terms live broken s
outcome_of tick event (Request member id side) s = on_status member id side s

-- the reports of an event, numbered by their place
unfoldable pub reports_from : ℕ → Event → List Notice → List Report
reports_from place event [] = []
reports_from place event (notice ∷ notices) =
    record {
      event = event.number;
      place = place;
      member = notice.member;
      moment = event.moment;
      kind = notice.kind;
    }
    ∷ reports_from (place + 1) event notices

-- the k-th event has number k
abbrev pub IsNumbered : List Event → Type 0
IsNumbered events = (k : ℕ) (event : Event) → slice_get events k ≡ Some event → event.number ≡ k + 1

-- a state, and all reports that led there
pub record Run : Type 0 where
  pub state : State
  pub reports : List Report

-- one more event
unfoldable pub step : ℕ → Run → Event → Run
step tick run event =
    let outcome = outcome_of tick event.number event.command run.state in
    record { state = outcome.state; reports = run.reports ++ reports_from 1 event outcome.notices }

-- all events in order, in the book of a symbol with so many markets and this tick
unfoldable pub runs : ℕ → ℕ → List Event → Run
runs markets tick events = fold (step tick) (record { state = initial markets; reports = [] }) events
