-- A symbol's book behind an event, as an operator reads it.
use Rattle.std.specs.Prelude.{◌≡◌, ℕ, ◌==◌, if◌then◌else◌, List, [], ◌++◌, length, codes, decimal}
use Rattle.std.specs.List.{flat_map}
use Rattle.venue_words.specs.declared.command.Event.{Event}
use Rattle.venue_words.specs.declared.config.Config.{Config}
use Rattle.venue_words.specs.declared.price.Best.{Best}
use Rattle.venue_words.specs.declared.price.Side.{Side}
use Rattle.venue_words.specs.declared.price.Side.TheVariants.{Buy, Sell}
use Rattle.venue_words.specs.declared.row.Priced.{Priced}
use Rattle.venue_words.specs.Priority.{in_priority}
use Rattle.eager_meaning.specs.State.{State, own_rows}
use Rattle.listing.specs.Commands.{name_at}
use Rattle.listing.specs.Lines.{ended}
use Rattle.audit_columns.specs.Columns.{event_clock, quote_text}
use Rattle.audit_columns.specs.Resting.{depth_cells, row_cells}
use Rattle.audit_queue.specs.Levels.{levels}
use Rattle.audit_queue.specs.Queues.{waiting}
use Rattle.audit_queue.specs.declared.levels.Level.{Level}
use Rattle.audit_queue.specs.declared.queue.Queue.{Queue}
use Rattle.audit_core.specs.Audited.{run_of}
use Rattle.audit_tables.specs.Trades.{best_behind}

-- SYMBOL behind event NUMBER at CLOCK
unfoldable pub place_text : Config → ℕ → List Event → ℕ → List ℕ
place_text config symbol journal number =
    name_at config.symbols symbol
    ++ codes " behind event "
    ++ decimal number
    ++ codes " at "
    ++ event_clock journal number

-- SYMBOL behind event NUMBER at CLOCK: bid BID, offer OFFER
unfoldable pub title : Config → ℕ → List Event → Best → List ℕ
title config symbol journal best =
    place_text config symbol journal (length journal) ++ codes ": " ++ quote_text best

-- PRICE TIME ENTRY LEAVES MINIMUM MEMBER; an inactive order has the reason in the price's place
abbrev pub row_line : Config → List Event → Best → Priced → List ℕ
row_line config journal best x = row_cells journal best x ++ name_at config.members x.row.member

abbrev pub row_lines : Config → List Event → Best → List Priced → List ℕ
row_lines config journal best rows = flat_map (λ x. ended (row_line config journal best x)) rows

-- the names of the columns
abbrev pub heading : Side → List ℕ
heading Buy = codes "buys           since                  entered                leaves     minimum    member"
heading Sell = codes "sells          since                  entered                leaves     minimum    member"

-- the active orders of a side as they trade, and behind them the inactive ones in order of entry
unfoldable pub side_lines : Config → List Event → Best → Side → State → List ℕ
side_lines config journal best side state =
    ended (heading side)
    ++ row_lines config journal best (in_priority (own_rows side state))
    ++ row_lines config journal best (waiting (own_rows side state))

-- the names of the columns of a side by price
abbrev pub depth_heading : Side → List ℕ
depth_heading Buy = codes "buys by price  shares     orders"
depth_heading Sell = codes "sells by price shares     orders"

-- PRICE SHARES ORDERS
abbrev pub level_lines : List Level → List ℕ
level_lines found = flat_map (λ level. ended (depth_cells level.price level.shares level.orders)) found

-- the active orders of a side by price, as they trade
unfoldable pub depth_lines : Side → State → List ℕ
depth_lines side state = ended (depth_heading side) ++ level_lines (levels (in_priority (own_rows side state)))

-- the book of a symbol behind the last event of its journal
unfoldable pub book_text : Config → ℕ → List Event → List ℕ
book_text config symbol journal =
    ended (title config symbol journal (best_behind config symbol journal))
    ++ side_lines config journal (best_behind config symbol journal) Buy (run_of config symbol journal).state
    ++ side_lines config journal (best_behind config symbol journal) Sell (run_of config symbol journal).state
    ++ depth_lines Buy (run_of config symbol journal).state
    ++ depth_lines Sell (run_of config symbol journal).state

-- it is told after the event of one number, and after no other
unfoldable pub book_if_behind : ℕ → Config → ℕ → List Event → List ℕ
book_if_behind event config symbol journal = if length journal == event then book_text config symbol journal else []

-- the orders of a side as they queue
pub record IsSideQueue (side : Side) (state : State) (queue : Queue) : Type 0 where
  pub active : queue.active.items ≡ in_priority (own_rows side state)
  pub inactive : queue.inactive.items ≡ waiting (own_rows side state)
