-- Trades that are reported one after the other.
use Rattle.std.proofs.Common.{◌≡◌, ℕ, ◌+◌, ◌*◌, ◌++◌, List, length, All}
use Rattle.venue_words.specs.declared.command.Event.{Event}
use Rattle.venue_words.specs.declared.report.Report.{Report}
use Rattle.eager_meaning.specs.declared.notice.Notice.{Notice}
use Rattle.eager_meaning.specs.declared.trade.Fill.{Fill}
use Rattle.eager_meaning.specs.Trades.{trade_notices, orders_after_all}
use Rattle.eager_meaning.specs.Step.{reports_from}
use Rattle.symbol_book.specs.Log.{Log}
use Rattle.symbol_book.specs.Orders.{IsSmall, HaveLeft, OrderList}

-- whatever is reported next, these notices and it continue one list as those notices and it do the other
pub record Continues (event : Event) (before : List Report) (place : ℕ) (notices : List Notice) (after : List Report) (next : ℕ) (left : List Notice) : Type 0 where
  pub all : (rest : List Notice) → after ++ reports_from next event (left ++ rest) ≡ before ++ reports_from place event (notices ++ rest)

-- in the midst of trades: what is reported and changed so far, and what is left
pub record Midway (event : Event) (fills : List Fill) (orders : OrderList) (log : Log) (place : ℕ) (left : List Fill) (orders_now : OrderList) (log_now : Log) (place_now : ℕ) : Type 0 where
  pub reports : Continues event log.list place (trade_notices fills orders.items) log_now.list place_now (trade_notices left orders_now.items)
  pub after : orders_after_all left orders_now.items ≡ orders_after_all fills orders.items
  pub fit : HaveLeft left orders_now.items
  pub small : All IsSmall orders_now.items
  pub next : place_now + 2 * length left ≡ place + 2 * length fills
  pub places : log_now.places + 2 * length fills ≡ log.places + 2 * length left
  pub copies : orders_now.copies + 2 * length fills ≡ orders.copies + 2 * length left
