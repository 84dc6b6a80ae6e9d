-- What the reports of a history tell of each order.
use Rattle.std.specs.Prelude.{◌≡◌, ℕ, ◌==◌, if◌then◌else◌, List, slice_get, Some, sum_by}
use Rattle.venue_words.specs.declared.command.Event.{Event}
use Rattle.venue_words.specs.declared.report.Execution.TheVariants.{Traded}
use Rattle.venue_words.specs.declared.report.Kind.{Kind}
use Rattle.venue_words.specs.declared.report.Kind.TheVariants.{Order as OrderReport}
use Rattle.venue_words.specs.declared.report.Report.{Report}
use Rattle.eager_meaning.specs.declared.order.Order.{Order}
use Rattle.eager_meaning.specs.Step.{IsNumbered, runs}

-- the shares that a report tells as traded by the order whose New is the event with this number
abbrev pub shares_of_order : ℕ → Kind → ℕ
shares_of_order first (OrderReport view (Traded quantity price)) = if view.first == first then quantity else 0
shares_of_order first _ = 0

-- all shares that the order traded, by the reports
abbrev pub shares_told_of : ℕ → List Report → ℕ
shares_told_of first reports = sum_by (λ report. shares_of_order first report.kind) reports

-- after every history whose events are numbered: each order's CumQty is the sum of the trades that the reports tell of it
abbrev pub CumIsSumOfTrades : Type 0
CumIsSumOfTrades =
    (markets tick : ℕ) (history : List Event)
    → IsNumbered history
    → (k : ℕ) (order : Order)
    → slice_get (runs markets tick history).state.orders k ≡ Some order
    → order.cum ≡ shares_told_of order.first (runs markets tick history).reports
