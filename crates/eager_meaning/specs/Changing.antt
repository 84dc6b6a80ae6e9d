-- How a live order is canceled or replaced.
use Rattle.std.specs.Prelude.{ℕ, ◌-◌, Bool, not, ◌&&◌, nat_le, ◌==◌, if◌then◌else◌, List, map, filter, Option, Some, option_map}
use Rattle.std.specs.Option.{option_map_or}
use Rattle.venue_words.specs.declared.row.Priced.{Priced}
use Rattle.venue_words.specs.declared.terms.Terms.{Terms}
use Rattle.venue_words.specs.declared.rule.Rule.{Rule}
use Rattle.venue_words.specs.declared.report.Execution.TheVariants.{Canceled, Replaced}
use Rattle.venue_words.specs.declared.report.Kind.{Kind}
use Rattle.venue_words.specs.declared.report.Kind.TheVariants.{Order as OrderReport, Refused}
use Rattle.venue_words.specs.declared.report.NamedOrder.{NamedOrder}
use Rattle.venue_words.specs.declared.report.RefusedRequest.{RefusedRequest}
use Rattle.venue_words.specs.declared.report.RefusedRequest.TheVariants.{Cancel as CancelRequest, Replace as ReplaceRequest}
use Rattle.venue_words.specs.Reports.{live_status}
use Rattle.venue_words.specs.Key.{same_key}
use Rattle.eager_meaning.specs.declared.order.Order.{Order}
use Rattle.eager_meaning.specs.declared.order.Live.{Live}
use Rattle.eager_meaning.specs.Terms.{quantity_of, limit_of, row_of, is_immediate, is_pegged}
use Rattle.eager_meaning.specs.Floor.{same_method}
use Rattle.eager_meaning.specs.Orders.{changed_at}
use Rattle.eager_meaning.specs.Showing.{view_of, view_closed}
use Rattle.eager_meaning.specs.State.{State, Outcome, with_used, with_no_notice, with_notice}
use Rattle.eager_meaning.specs.Entering.{Arrival, priced_now, enter}

-- ---- refusals

-- how a refusal names a live order
abbrev pub named_order : Live → NamedOrder
named_order live = record { first = live.order.first; status = live_status live.order.cum }

-- a refusal of a cancel or of a replace, with the live order that it names, or none
abbrev pub refusal : RefusedRequest → List ℕ → List ℕ → Option Live → Rule → Kind
refusal request id orig live rule = Refused id orig (option_map named_order live) request rule

-- ---- cancels

-- the rows without that of an entry
abbrev pub without : ℕ → List Priced → List Priced
without entry rows = filter (λ x. not (x.row.entry == entry)) rows

-- the state without a row
abbrev pub without_row : Priced → State → State
without_row x s = record s { buys = without x.row.entry s.buys; sells = without x.row.entry s.sells }

-- the order leaves; its report has the id of the cancel
unfoldable pub cancel : ℕ → List ℕ → List ℕ → Live → State → Outcome
cancel member id orig live s =
    with_notice member (OrderReport (record (view_closed live.order) { id = id }) (Canceled (Some orig)))
    (without_row live.row (with_used member id s))

-- a Cancel, with the live order that it names and the rule that it breaks, or none: it is refused, or the order leaves
unfoldable pub on_cancel : ℕ → List ℕ → List ℕ → Option Live → Option Rule → State → Outcome
on_cancel member id orig live broken s =
    option_map_or (λ rule. with_notice member (refusal CancelRequest id orig live rule) s) broken
    (option_map_or (λ found. cancel member id orig found s) live (with_no_notice s))

-- ---- replaces

-- the order as a replace leaves it; what it traded is kept
abbrev pub replaced_order : ℕ → List ℕ → Terms → Order → Order
replaced_order tick id terms order =
    record order { id = id; quantity = quantity_of terms; pegged = is_pegged terms; limit = limit_of tick terms }

-- the state after a replace of a live order, but for its row
abbrev pub with_replaced : ℕ → ℕ → List ℕ → Terms → Live → State → State
with_replaced tick member id terms live s =
    with_used member id (record s { orders = changed_at (replaced_order tick id terms) live.number s.orders })

-- whether a replace changes the quantity alone, and doesn't raise it
unfoldable pub only_lowers : ℕ → Terms → Live → Bool
only_lowers tick terms live =
    let new = row_of tick 0 0 0 0 terms in
    let old = live.row.row in
    same_key new.key old.key
    && ((new.cap == old.cap)
    && ((new.minimum == old.minimum)
    && (same_method new.method old.method
    && (not (is_immediate terms) && nat_le (quantity_of terms) live.order.quantity))))

-- a row with other leaves, where this is its entry
abbrev pub with_leaves : ℕ → ℕ → Priced → Priced
with_leaves entry leaves x = if x.row.entry == entry then record x { row = record x.row { leaves = leaves } } else x

-- the quantity changes; price, time and entry stay, and nothing trades
unfoldable pub resize : ℕ → ℕ → List ℕ → List ℕ → Terms → Live → State → Outcome
resize tick member id orig terms live s =
    let order = replaced_order tick id terms live.order in
    let leaves = order.quantity - order.cum in
    let entry = live.row.row.entry in
    let next = with_replaced tick member id terms live s in
    with_notice member (OrderReport (view_of order (Some live.row)) (Replaced orig))
    (record next { buys = map (with_leaves entry leaves) next.buys; sells = map (with_leaves entry leaves) next.sells })

-- an order that a replace takes out and enters anew
unfoldable pub arrival_of_replace : ℕ → ℕ → ℕ → List ℕ → List ℕ → Terms → Live → State → Arrival
arrival_of_replace tick event member id orig terms live s =
    let order = replaced_order tick id terms live.order in
    let x = priced_now s (row_of tick event live.number member live.order.cum terms) in
    record {
      taker = x;
      immediate = is_immediate terms;
      state = without_row live.row (with_replaced tick member id terms live s);
      notice = record { member = member; kind = OrderReport (view_of order (Some x)) (Replaced orig) };
    }

-- a Replace that breaks no rule: the quantity changes, or the order enters anew
abbrev pub replace : ℕ → ℕ → ℕ → List ℕ → List ℕ → Terms → Live → State → Outcome
replace tick event member id orig terms live s =
    if only_lowers tick terms live
    then resize tick member id orig terms live s
    else enter (arrival_of_replace tick event member id orig terms live s)

-- a Replace, with the live order that it names and the rule that it breaks, or none
unfoldable pub on_replace : ℕ → ℕ → ℕ → List ℕ → List ℕ → Terms → Option Live → Option Rule → State → Outcome
on_replace tick event member id orig terms live broken s =
    option_map_or (λ rule. with_notice member (refusal ReplaceRequest id orig live rule) s) broken
    (option_map_or (λ found. replace tick event member id orig terms found s) live (with_no_notice s))
