-- The life of an order on the page: what its member was told, report by report.
use Rattle.std.specs.Prelude.{ℕ, ◌+◌, ◌-◌, ◌%◌, ◌==◌, Bool, if◌then◌else◌, List, [], ◌++◌, codes, filter, length, slice_get, take, Option, Some, None}
use Rattle.venue_words.specs.declared.command.Event.{Event}
use Rattle.venue_words.specs.declared.config.Config.{Config}
use Rattle.venue_words.specs.declared.report.Execution.TheVariants.{Accepted, Traded, Canceled, Replaced, Status}
use Rattle.venue_words.specs.declared.report.Kind.{Kind}
use Rattle.venue_words.specs.declared.report.Kind.TheVariants.{Order, Rejected, Unknown, Refused}
use Rattle.venue_words.specs.declared.report.LiveOrder.{LiveOrder}
use Rattle.venue_words.specs.declared.report.RefusedRequest.{RefusedRequest}
use Rattle.venue_words.specs.declared.report.RefusedRequest.TheVariants as request
use Rattle.venue_words.specs.declared.report.Report.{Report}
use Rattle.venue_words.specs.declared.report.View.{View}
use Rattle.venue_words.specs.Rules.{rule_text}
use Rattle.exec_reports.specs.Parts.{id_in, leaves_in}
use Rattle.exec_reports.specs.Texts.{price_text}
use Rattle.audit_html.specs.Html.{html_text, shown}
use Rattle.audit_html.specs.Numbers.{count_text}
use Rattle.audit_tables.specs.Trades.{is_traded}
use Rattle.audit_report.specs.Cells.{link_of, member_of, td, when_cells}
use Rattle.audit_report.specs.Words.{is_code, side_word, terms_at, terms_words}

-- ---- what a report tells

-- whether the report at a place is the taker's of a trade: these stand two by two, the taker's first
abbrev pub took : List Report → ℕ → Bool
took reports place = length (filter is_traded (take place reports)) % 2 == 0

-- the other report of the trade, which stands beside it
abbrev pub beside : List Report → ℕ → Option Report
beside reports place = slice_get reports (if took reports place then place + 1 else place - 1)

-- with whom
abbrev pub with_text : Config → ℕ → Option Report → List ℕ
with_text config symbol None = []
with_text config symbol (Some other) =
    codes " with " ++ member_of config other ++ codes " <span class=\"i\">" ++ link_of config symbol other ++ codes "</span>"

abbrev pub role_word : Bool → List ℕ
role_word took = if took then codes ", as taker" else codes ", resting"

-- the price that it has while it rests
abbrev pub price_or_inactive : Option ℕ → List ℕ
price_or_inactive None = codes ", inactive"
price_or_inactive (Some price) = codes ", priced " ++ price_text price

abbrev pub priced_text : Option LiveOrder → List ℕ
priced_text None = []
priced_text (Some live) = price_or_inactive live.price

-- what it asks from an event on
unfoldable pub asks_text : List Event → ℕ → View → List ℕ
asks_text journal event view =
    side_word view.side
    ++ count_text view.quantity
    ++ codes ", "
    ++ terms_words (terms_at journal event) view.pegged view.limit
    ++ priced_text view.live

abbrev pub request_word : RefusedRequest → List ℕ
request_word request.Cancel = codes "cancel"
request_word request.Replace = codes "replace"

-- a trade, by the report at a place
unfoldable pub trade_words : Config → ℕ → List Report → ℕ → ℕ → ℕ → List ℕ
trade_words config symbol reports place quantity price =
    codes "traded "
    ++ count_text quantity
    ++ codes " at "
    ++ price_text price
    ++ with_text config symbol (beside reports place)
    ++ role_word (took reports place)

-- what the report at a place tells
unfoldable pub what_text : Config → ℕ → List Event → List Report → ℕ → ℕ → Kind → List ℕ
what_text config symbol journal reports place event (Order view Accepted) = codes "entered: " ++ asks_text journal event view
what_text config symbol journal reports place event (Order view (Replaced orig)) = codes "replaced: " ++ asks_text journal event view
what_text config symbol journal reports place event (Order view (Traded quantity price)) = trade_words config symbol reports place quantity price
what_text config symbol journal reports place event (Order view (Canceled None)) = codes "canceled"
what_text config symbol journal reports place event (Order view (Canceled (Some orig))) = codes "canceled on request"
what_text config symbol journal reports place event (Order view Status) = []
what_text config symbol journal reports place event (Refused id orig order request rule) =
    request_word request ++ codes " refused: " ++ html_text (rule_text rule)
what_text config symbol journal reports place event (Rejected id side quantity rule) = []
what_text config symbol journal reports place event (Unknown id side) = []

-- LEAVES left, of a report that shows an order
unfoldable pub leaves_words : Kind → List ℕ
leaves_words (Order view execution) = count_text (leaves_in (Order view execution)) ++ codes " left"
leaves_words (Rejected id side quantity rule) = []
leaves_words (Unknown id side) = []
leaves_words (Refused id orig order request rule) = []

-- LEAVES CLORDID
unfoldable pub state_cells : Kind → List ℕ
state_cells kind = td (leaves_words kind) ++ td (shown (id_in kind))

-- TIME EVENT WHAT LEAVES CLORDID
unfoldable pub life_line : Config → ℕ → List Event → List Report → ℕ → Report → List ℕ
life_line config symbol journal reports place report =
    codes "<tr>"
    ++ when_cells report
    ++ td (what_text config symbol journal reports place report.event report.kind)
    ++ state_cells report.kind

-- the event at which the order entered of which a report tells something new; an answer to a status request tells nothing new
unfoldable pub told_first : Kind → Option ℕ
told_first (Order view Status) = None
told_first (Order view execution) = Some view.first
told_first (Refused id orig (Some order) request rule) = Some order.first
told_first _ = None

-- whether it tells of the order that entered at an event
abbrev pub is_of : ℕ → Kind → Bool
is_of first kind = is_code first (told_first kind)
