-- The orders of a symbol as rows of the page, each with its life.
use Rattle.std.specs.Prelude.{◌≡◌, ◌<◌, ℕ, ◌==◌, if◌then◌else◌, List, [], ◌∷◌, ◌++◌, codes, filter_map, length, slice_get, Option, Some, None, option_map}
use Rattle.std.specs.List.{range_with_len}
use Rattle.std.specs.Global.{Vec}
use Rattle.venue_words.specs.declared.command.Event.{Event}
use Rattle.venue_words.specs.declared.config.Config.{Config}
use Rattle.venue_words.specs.declared.report.Report.{Report}
use Rattle.venue_words.specs.declared.row.Priced.{Priced}
use Rattle.eager_meaning.specs.declared.order.Order.{Order}
use Rattle.eager_meaning.specs.Showing.{row_of_order}
use Rattle.eager_meaning.specs.State.{resting}
use Rattle.eager_meaning.specs.Step.{Run, runs}
use Rattle.symbol_book.specs.Book.{BookView}
use Rattle.listing.specs.Commands.{name_at}
use Rattle.audit_columns.specs.Columns.{event_clock}
use Rattle.audit_core.specs.Audited.{run_of}
use Rattle.audit_core.specs.Telling.{IsBookOf}
use Rattle.audit_html.specs.Html.{shown}
use Rattle.audit_html.specs.Numbers.{count_text}
use Rattle.audit_report.specs.Cells.{anchor}
use Rattle.audit_report.specs.declared.lives.At.{At}
use Rattle.audit_report.specs.Buckets.{AreBuckets, life_lines}
use Rattle.audit_report.specs.Words.{further_limit, side_word}

abbrev pub span : List ℕ → List ℕ
span text = codes "<span>" ++ text ++ codes "</span>"

-- what became of an order that has traded so many of its shares, and rests with so many or not
abbrev pub end_of_resting : ℕ → ℕ → List ℕ
end_of_resting cum leaves =
    if cum == 0 then codes "rests" else codes "traded " ++ count_text cum ++ codes ", " ++ count_text leaves ++ codes " rests"

abbrev pub end_of_left : ℕ → ℕ → List ℕ
end_of_left cum quantity =
    if cum == quantity then codes "filled"
    else if cum == 0 then codes "canceled"
    else codes "traded " ++ count_text cum ++ codes ", canceled"

abbrev pub end_words : Order → Option Priced → List ℕ
end_words order None = end_of_left order.cum order.quantity
end_words order (Some x) = end_of_resting order.cum x.row.leaves

-- what it asks at last
abbrev pub asked_words : Order → List ℕ
asked_words order =
    side_word order.side
    ++ count_text order.quantity
    ++ (if order.pegged then codes ", pegged" else [])
    ++ further_limit order.limit

-- TIME ORDER
unfoldable pub entered_cells : Config → ℕ → List Event → Order → List ℕ
entered_cells config symbol journal order = span (event_clock journal order.first) ++ span (anchor config symbol order.first)

-- MEMBER CLORDID
unfoldable pub owner_cells : Config → Order → List ℕ
owner_cells config order =
    span (shown (name_at config.members order.member)) ++ codes "<span class=\"i\">" ++ shown order.id ++ codes "</span>"

-- ASKED END
unfoldable pub end_cells : Order → Option Priced → List ℕ
end_cells order x = span (asked_words order) ++ span (end_words order x)

-- TIME ORDER MEMBER CLORDID ASKED END
abbrev pub head_of : Config → ℕ → List Event → Order → Option Priced → List ℕ
head_of config symbol journal order x = entered_cells config symbol journal order ++ owner_cells config order ++ end_cells order x

-- an order, with its life, which opens at a click
unfoldable pub order_row : Config → ℕ → List Event → List Report → Order → Option Priced → List ℕ
order_row config symbol journal reports order x =
    codes "<details class=\"o row\"><summary>"
    ++ head_of config symbol journal order x
    ++ codes "</summary><table class=\"life\" id=\"" ++ anchor config symbol order.first ++ codes "\">"
    ++ life_lines config symbol journal reports order.first
    ++ codes "</table></details>" ++ 10 ∷ []

-- a symbol's book with its journal and reports, and for each of its orders the places of the reports that tell of it
pub record AreLives (config : Config) (symbol : ℕ) (book : BookView) (journal : List Event) (reports : List Report) (buckets : List (Vec At)) : Type 0 where
  pub of : IsBookOf config symbol book
  pub events : journal ≡ book.journal
  pub told : reports ≡ book.reports
  pub places : AreBuckets reports (length reports) buckets
  pub room : (k : ℕ) (order : Order) → slice_get (runs book.markets book.tick book.journal).state.orders k ≡ Some order → order.first < length buckets

-- the row of the order of a number
abbrev pub row_at : Config → ℕ → List Event → Run → ℕ → Option (List ℕ)
row_at config symbol journal run number =
    option_map (λ order. order_row config symbol journal run.reports order (row_of_order number (resting run.state))) (slice_get run.state.orders number)

-- the rows of the orders of the first numbers
abbrev pub rows_to : ℕ → Config → ℕ → List Event → List (List ℕ)
rows_to count config symbol journal =
    filter_map (row_at config symbol journal (run_of config symbol journal)) (range_with_len 0 count)

-- all orders of a journal, in the order in which they entered
abbrev pub order_rows : Config → ℕ → List Event → List (List ℕ)
order_rows config symbol journal = rows_to (length (run_of config symbol journal).state.orders) config symbol journal
