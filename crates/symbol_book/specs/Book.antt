-- What a book keeps.
use Rattle.std.specs.Prelude.{◌≡◌, ℕ, ◌≤◌, List, [], All, length, Option}
use Rattle.venue_words.specs.declared.command.Event.{Event}
use Rattle.venue_words.specs.declared.price.Best.{Best}
use Rattle.venue_words.specs.declared.report.Report.{Report}
use Rattle.venue_words.specs.declared.row.Key.{Key}
use Rattle.venue_words.specs.declared.row.Row.{Row}
use Rattle.venue_words.specs.declared.row.Priced.{Priced}
use Rattle.venue_words.specs.Best.{best_of}
use Rattle.venue_words.specs.Conditions.{IsTick}
use Rattle.venue_words.specs.declared.limits.TheConstants.{MAX_EVENTS}
use Rattle.eager_meaning.specs.declared.order.Order.{Order}
use Rattle.eager_meaning.specs.Step.{IsNumbered, runs}
use Rattle.market_laws.specs.Standing.{entry_rows}
use Rattle.symbol_book.specs.Ids.{UsedId, IdList, NameOrders, used_of}
use Rattle.symbol_book.specs.Log.{Log}
use Rattle.symbol_book.specs.Orders.{IsSmall}
use Rattle.symbol_book.specs.Rows.{AreEntered}
use Rattle.symbol_book.specs.State.{state_of}

-- a book as contracts see it: the number of its markets, its tick and its limit, its journal and its reports, the key
-- for which it has room, where it has room, and the most bytes of an id that an order may have
pub record BookView : Type 0 where
  pub markets : ℕ
  pub tick : ℕ
  pub limit : ℕ
  pub journal : List Event
  pub reports : List Report
  pub ready : Option (Option Key)
  pub longest : ℕ

-- what a book keeps beside its state: the rows with which orders entered, and which orders the ids name
pub record KeepsOrders
    (entered : List (Option Row)) (orders : List Order) (rows : List Priced) (entries : List UsedId) : Type 0 where
  pub small : All IsSmall orders
  pub entered_rows : AreEntered entered orders rows
  pub named : NameOrders entries orders

-- the parts of a book are those of the runs of its journal
pub record IsKept (tick limit : ℕ)
    (markets : List Best) (buys sells : List Priced) (best : Best) (latest : ℕ)
    (orders : List Order) (entered : List (Option Row)) (ids : IdList)
    (log : Log) (journal : List Event) : Type 0 where
  pub ticks : IsTick tick
  pub limits : limit ≤ MAX_EVENTS
  pub state : (runs (length markets) tick journal).state ≡ state_of markets buys sells orders (used_of ids.entries)
  pub reports : (runs (length markets) tick journal).reports ≡ log.list
  pub quote : best ≡ best_of markets
  pub past : latest ≤ length journal
  pub short : length journal ≤ limit
  pub numbered : IsNumbered journal
  pub rows : entered ≡ entry_rows (length markets) tick journal
  pub small : All IsSmall orders
  pub named : NameOrders ids.entries orders
  pub settled : ids.placed ≡ []
