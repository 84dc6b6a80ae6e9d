-- What a report says, by its kind.
use Rattle.std.specs.Prelude.{ℕ, ◌==◌, Bool, true, false, if◌then◌else◌, List, Option, Some, None, option_and_then, option_map, decimal}
use Rattle.std.specs.Option.{option_map_or}
use Rattle.venue_words.specs.declared.report.Execution.TheVariants.{Accepted, Traded, Canceled, Replaced, Status}
use Rattle.venue_words.specs.declared.report.Kind.{Kind}
use Rattle.venue_words.specs.declared.report.Kind.TheVariants.{Order, Rejected, Unknown, Refused}
use Rattle.venue_words.specs.declared.report.LiveOrder.{LiveOrder}
use Rattle.venue_words.specs.declared.report.View.{View}
use Rattle.venue_words.specs.Reports.{status_of}
use Rattle.venue_words.specs.Rules.{rule_number}
use Rattle.exec_reports.specs.Codes.{status_code, side_code, request_code, reject_reason, refuse_reason}
use Rattle.exec_reports.specs.Texts.{amount_text}

-- the order that is shown
unfoldable pub view_in : Kind → Option View
view_in (Order view execution) = Some view
view_in _ = None

-- what the order has while it is live
abbrev pub live_in : Kind → Option LiveOrder
live_in kind = option_and_then (λ view. view.live) (view_in kind)

-- the same, where its price and time are shown
unfoldable pub standing_in : Kind → Option LiveOrder
standing_in (Order view Accepted) = view.live
standing_in (Order view (Replaced orig)) = view.live
standing_in (Order view Status) = view.live
standing_in _ = None

-- the event of the New of the order that is meant
unfoldable pub first_in : Kind → Option ℕ
first_in (Order view execution) = Some view.first
first_in (Refused id orig order request rule) = option_map (λ named. named.first) order
first_in _ = None

-- the identifier that the member gave
unfoldable pub id_in : Kind → List ℕ
id_in (Order view execution) = view.id
id_in (Rejected id side quantity rule) = id
id_in (Unknown id side) = id
id_in (Refused id orig order request rule) = id

-- the identifier of the order that a cancel or a replace named
unfoldable pub orig_in : Kind → Option (List ℕ)
orig_in (Order view (Canceled orig)) = orig
orig_in (Order view (Replaced orig)) = Some orig
orig_in (Refused id orig order request rule) = Some orig
orig_in _ = None

-- ExecType: `0`, `F`, `4`, `5`, `8` or `I`
unfoldable pub exec_type : Kind → ℕ
exec_type (Order view Accepted) = 48
exec_type (Order view (Traded quantity price)) = 70
exec_type (Order view (Canceled orig)) = 52
exec_type (Order view (Replaced orig)) = 53
exec_type (Order view Status) = 73
exec_type (Rejected id side quantity rule) = 56
exec_type (Unknown id side) = 73
exec_type (Refused id orig order request rule) = 56

-- OrdStatus: that of the order that is meant, or `8`
unfoldable pub status_in : Kind → ℕ
status_in (Order view execution) = status_code (status_of view)
status_in (Refused id orig (Some order) request rule) = status_code order.status
status_in _ = 56

-- OrdRejReason, on a rejection and on the answer for an unknown order; event 0 is that of a message that came to no book
unfoldable pub reason_in : ℕ → Kind → Option ℕ
reason_in event (Rejected id side quantity rule) = Some (reject_reason rule)
reason_in event (Unknown id side) = Some (if event == 0 then 1 else 5)
reason_in event _ = None

-- Side: that of the order, or the byte that was received; a refused cancel or replace shows none
unfoldable pub side_in : Kind → ℕ
side_in (Order view execution) = side_code view.side
side_in (Rejected id side quantity rule) = side
side_in (Unknown id side) = side
side_in (Refused id orig order request rule) = 0

-- OrderQty: that of the order, or the amount that was received
unfoldable pub quantity_in : Kind → Option (List ℕ)
quantity_in (Order view execution) = Some (decimal view.quantity)
quantity_in (Rejected id side quantity rule) = Some (amount_text quantity)
quantity_in _ = None

-- OrdType: `P` is pegged and `2` a limit order
abbrev pub type_code : View → ℕ
type_code view = if view.pegged then 80 else 50

abbrev pub type_in : Kind → Option ℕ
type_in kind = option_map type_code (view_in kind)

-- the limit, where the order has one
abbrev pub limit_in : Kind → Option ℕ
limit_in kind = option_and_then (λ view. view.limit) (view_in kind)

-- the shares of a fill
unfoldable pub last_quantity_in : Kind → Option ℕ
last_quantity_in (Order view (Traded quantity price)) = Some quantity
last_quantity_in _ = None

-- the price of a fill
unfoldable pub last_price_in : Kind → Option ℕ
last_price_in (Order view (Traded quantity price)) = Some price
last_price_in _ = None

-- what is left of the order, what it has traded and what that cost; 0 without an order
abbrev pub leaves_in : Kind → ℕ
leaves_in kind = option_map_or (λ live. live.leaves) (live_in kind) 0

abbrev pub cum_in : Kind → ℕ
cum_in kind = option_map_or (λ view. view.cum) (view_in kind) 0

abbrev pub notional_in : Kind → ℕ
notional_in kind = option_map_or (λ view. view.notional) (view_in kind) 0

-- the price of an order that is active
abbrev pub price_in : Kind → Option ℕ
price_in kind = option_and_then (λ live. live.price) (standing_in kind)

-- the event of a live order's time
abbrev pub time_in : Kind → Option ℕ
time_in kind = option_map (λ live. live.time) (standing_in kind)

-- the number of the rule that was broken
unfoldable pub rule_in : Kind → Option ℕ
rule_in (Rejected id side quantity rule) = Some (rule_number rule)
rule_in (Refused id orig order request rule) = Some (rule_number rule)
rule_in _ = None

-- CxlRejResponseTo
unfoldable pub answer_in : Kind → Option ℕ
answer_in (Refused id orig order request rule) = Some (request_code request)
answer_in _ = None

-- CxlRejReason
unfoldable pub refusal_in : Kind → Option ℕ
refusal_in (Refused id orig order request rule) = Some (refuse_reason rule)
refusal_in _ = None

-- whether a cancel or a replace was refused
abbrev pub is_refusal : Kind → Bool
is_refusal (Refused id orig order request rule) = true
is_refusal _ = false
