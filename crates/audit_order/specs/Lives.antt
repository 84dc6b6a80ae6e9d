-- The life of an order, event by event, as an operator reads it.
use Rattle.std.specs.Prelude.{ℕ, ◌+◌, ◌-◌, ◌==◌, Bool, true, false, ◌&&◌, if◌then◌else◌, List, [], ◌++◌, codes, decimal, length, take, Option, Some, None}
use Rattle.std.specs.List.{flat_map, position_from}
use Rattle.venue_words.specs.declared.command.Event.{Event}
use Rattle.venue_words.specs.declared.config.Config.{Config}
use Rattle.venue_words.specs.declared.price.Best.{Best}
use Rattle.venue_words.specs.declared.price.Side.{Side}
use Rattle.venue_words.specs.declared.price.Side.TheVariants.{Buy, Sell}
use Rattle.venue_words.specs.declared.report.Execution.{Execution}
use Rattle.venue_words.specs.declared.report.Execution.TheVariants.{Accepted, Traded, Canceled, Replaced, Status}
use Rattle.venue_words.specs.declared.report.Kind.{Kind}
use Rattle.venue_words.specs.declared.report.Kind.TheVariants.{Order}
use Rattle.venue_words.specs.declared.report.Report.{Report}
use Rattle.venue_words.specs.declared.report.View.{View}
use Rattle.venue_words.specs.declared.row.Priced.{Priced}
use Rattle.venue_words.specs.Priority.{in_priority}
use Rattle.eager_meaning.specs.State.{State, own_rows}
use Rattle.exec_reports.specs.Parts.{leaves_in}
use Rattle.exec_reports.specs.Texts.{price_text}
use Rattle.listing.specs.Commands.{name_at}
use Rattle.listing.specs.Lines.{ended}
use Rattle.audit_columns.specs.Columns.{event_cells, quote_text}
use Rattle.audit_columns.specs.Resting.{price_or_why}
use Rattle.audit_core.specs.Audited.{run_of}
use Rattle.audit_core.specs.Telling.{reports_of_last}
use Rattle.audit_tables.specs.Trades.{best_behind}
use Rattle.audit_order.specs.Standing.{rests_alike, standing}

-- ---- what the member was told

abbrev pub side_word : Side → List ℕ
side_word Buy = codes " buys "
side_word Sell = codes " sells "

abbrev pub limit_text : Option ℕ → List ℕ
limit_text None = []
limit_text (Some price) = codes " with limit " ++ price_text price

abbrev pub peg_word : Bool → List ℕ
peg_word pegged = if pegged then codes " pegged" else []

-- MEMBER buys QUANTITY pegged with limit PRICE
unfoldable pub terms_text : List ℕ → View → List ℕ
terms_text member view =
    member ++ side_word view.side ++ decimal view.quantity ++ peg_word view.pegged ++ limit_text view.limit

-- what became of an order of a member
unfoldable pub what_text : List ℕ → View → Execution → List ℕ
what_text member view Accepted = codes "entered: " ++ terms_text member view
what_text member view (Traded quantity price) = codes "traded " ++ decimal quantity ++ codes " at " ++ price_text price
what_text member view (Canceled orig) = codes "canceled"
what_text member view (Replaced orig) = codes "replaced: " ++ terms_text member view
what_text member view Status = []

-- an answer to a status request tells nothing new
unfoldable pub is_news : Execution → Bool
is_news Accepted = true
is_news (Traded quantity price) = true
is_news (Canceled orig) = true
is_news (Replaced orig) = true
is_news Status = false

-- EVENT CLOCK WHAT, LEAVES left
unfoldable pub told_line : Config → List Event → Report → View → Execution → List ℕ
told_line config journal report view execution =
    event_cells journal report.event
    ++ what_text (name_at config.members report.member) view execution
    ++ codes ", "
    ++ decimal (leaves_in report.kind)
    ++ codes " left"

-- the line of a report of this kind, where it tells of the order that entered at an event
unfoldable pub line_of : Config → List Event → ℕ → Report → Kind → List ℕ
line_of config journal first report (Order view execution) =
    if (view.first == first) && is_news execution then ended (told_line config journal report view execution) else []
line_of config journal first report _ = []

-- the lines of reports
abbrev pub report_lines : Config → List Event → ℕ → List Report → List ℕ
report_lines config journal first reports = flat_map (λ report. line_of config journal first report report.kind) reports

-- ---- how it rests

-- the place of an order among the active ones of its side, which trade in this order
abbrev pub place_in : ℕ → List Priced → Option ℕ
place_in number queue = position_from (λ x. x.row.order == number) 0 queue

-- place N of M
unfoldable pub place_text : Option ℕ → ℕ → List ℕ
place_text None count = codes "no place"
place_text (Some place) count = codes "place " ++ decimal (place + 1) ++ codes " of " ++ decimal count

-- its place among the active orders of its side
unfoldable pub queue_text : Priced → List Priced → List ℕ
queue_text x queue = place_text (place_in x.row.order queue) (length queue)

-- PRICE since event EVENT, LEAVES left, place N of M; bid BID, offer OFFER
unfoldable pub row_text : Best → State → Priced → List ℕ
row_text best state x =
    price_or_why best x
    ++ codes " since event "
    ++ decimal x.time
    ++ codes ", "
    ++ decimal x.row.leaves
    ++ codes " left, "
    ++ queue_text x (in_priority (own_rows x.row.key.side state))
    ++ codes "; "
    ++ quote_text best

abbrev pub rests_text : Best → State → Option Priced → List ℕ
rests_text best state None = codes "rests no more"
rests_text best state (Some x) = codes "rests: " ++ row_text best state x

-- how it rests behind the last event of a journal, where it doesn't rest as before
unfoldable pub change_text : List Event → Best → State → Option Priced → Option Priced → List ℕ
change_text journal best state was rests =
    if rests_alike was rests then [] else ended (event_cells journal (length journal) ++ rests_text best state rests)

-- ---- the life

-- what the last event of a journal did to the order that entered at an event
unfoldable pub life_text : ℕ → Config → ℕ → List Event → List ℕ
life_text first config symbol journal =
    report_lines config journal first (reports_of_last config symbol journal)
    ++ change_text journal (best_behind config symbol journal) (run_of config symbol journal).state
    (standing config symbol (take (length journal - 1) journal) first) (standing config symbol journal first)
