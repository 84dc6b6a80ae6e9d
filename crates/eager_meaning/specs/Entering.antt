-- How an order enters a symbol's book.
use Rattle.std.specs.Prelude.{ℕ, Bool, if◌then◌else◌, List, [], ◌∷◌, ◌++◌, length, slice_get, Option, Some, None, option_map, option_to_list, flat_map}
use Rattle.std.specs.Option.{option_map_or}
use Rattle.venue_words.specs.declared.row.Row.{Row}
use Rattle.venue_words.specs.declared.row.Priced.{Priced}
use Rattle.venue_words.specs.declared.terms.Terms.{Terms}
use Rattle.venue_words.specs.declared.rule.Rule.{Rule}
use Rattle.venue_words.specs.declared.report.Execution.TheVariants.{Accepted, Canceled}
use Rattle.venue_words.specs.declared.report.Kind.TheVariants.{Order as OrderReport, Rejected}
use Rattle.venue_words.specs.Best.{best_of}
use Rattle.venue_words.specs.Peg.{value_under}
use Rattle.eager_meaning.specs.declared.trade.Fill.{Fill}
use Rattle.eager_meaning.specs.declared.order.Order.{Order}
use Rattle.eager_meaning.specs.declared.notice.Notice.{Notice}
use Rattle.eager_meaning.specs.Terms.{side_of, quantity_of, limit_of, row_of, is_immediate, is_pegged}
use Rattle.eager_meaning.specs.Matching.{takes_of, fills_of, row_after, rows_after, unfilled}
use Rattle.eager_meaning.specs.Walk.{total_of}
use Rattle.eager_meaning.specs.Showing.{view_of, view_closed}
use Rattle.eager_meaning.specs.Trades.{trade_notices, orders_after_all}
use Rattle.eager_meaning.specs.State.{State, Outcome, own_rows, other_rows, with_rows, with_used, with_notice}

-- an order that is about to enter: its row, whether it stays only to trade at once, the book without it, and its notice
pub record Arrival : Type 0 where
  pub taker : Priced
  pub immediate : Bool
  pub state : State
  pub notice : Notice

-- the rows and trades after an order entered, and what is left of it
pub record Entered : Type 0 where
  pub own : List Priced
  pub others : List Priced
  pub fills : List Fill
  pub left : List Priced

-- an order walks once, and what is left rests, but of one that stays only to trade at once
unfoldable pub entered : Priced → Bool → List Priced → List Priced → Entered
entered taker immediate own others =
    let takes = takes_of taker others in
    let left = unfilled (row_after (total_of takes) taker ∷ []) in
    record {
      own = if immediate then own else own ++ left;
      others = rows_after takes others;
      fills = fills_of taker takes;
      left = left;
    }

-- an order that leaves with untraded shares is canceled
abbrev pub leftover_notice : ℕ → List Order → List Notice
leftover_notice number orders =
    option_to_list
    (option_map
    (λ order. record { member = order.member; kind = OrderReport (view_closed order) (Canceled None) })
    (slice_get orders number))

-- what is left of an order that stays only to trade at once is canceled
unfoldable pub leftover_notices : Bool → List Priced → List Order → List Notice
leftover_notices immediate left orders =
    if immediate then flat_map (λ x. leftover_notice x.row.order orders) left else []

-- an order enters: its notice comes first, then those of its trades, then that of what is left
unfoldable pub enter : Arrival → Outcome
enter arrival =
    let side = arrival.taker.row.key.side in
    let after =
    entered arrival.taker arrival.immediate (own_rows side arrival.state) (other_rows side arrival.state) in
    let orders = orders_after_all after.fills arrival.state.orders in
    record {
      state = with_rows side after.own after.others (record arrival.state { orders = orders });
      notices =
          arrival.notice
          ∷ (trade_notices after.fills arrival.state.orders ++ leftover_notices arrival.immediate after.left orders);
    }

-- a row is priced by the present quote, with its entry as its time
abbrev pub priced_now : State → Row → Priced
priced_now s row = record { row = row; value = value_under (best_of s.markets) row; time = row.entry }

-- an accepted order, before it trades
unfoldable pub accepted_order : ℕ → ℕ → ℕ → List ℕ → Terms → Order
accepted_order tick event member id terms =
    record {
      member = member;
      first = event;
      id = id;
      side = side_of terms;
      quantity = quantity_of terms;
      pegged = is_pegged terms;
      limit = limit_of tick terms;
      cum = 0;
      notional = 0;
    }

-- the state with an accepted order, but for its row
abbrev pub with_accepted : ℕ → List ℕ → Order → State → State
with_accepted member id order s = with_used member id (record s { orders = s.orders ++ order ∷ [] })

-- an accepted order enters: the next number is its own
unfoldable pub arrival_of_new : ℕ → ℕ → ℕ → List ℕ → Terms → State → Arrival
arrival_of_new tick event member id terms s =
    let order = accepted_order tick event member id terms in
    let x = priced_now s (row_of tick event (length s.orders) member 0 terms) in
    record {
      taker = x;
      immediate = is_immediate terms;
      state = with_accepted member id order s;
      notice = record { member = member; kind = OrderReport (view_of order (Some x)) Accepted };
    }

-- a New, with the rule that it breaks or none: it is rejected, or it enters
unfoldable pub on_new : ℕ → ℕ → ℕ → List ℕ → Terms → Option Rule → State → Outcome
on_new tick event member id terms broken s =
    option_map_or (λ rule. with_notice member (Rejected id terms.side terms.quantity rule) s) broken
    (enter (arrival_of_new tick event member id terms s))
