-- The table of trades: a line for each, as the reports of its event tell it.
use Rattle.std.specs.Prelude.{◌≡◌, ◌<◌, ◌≤◌, ℕ, ◌+◌, ◌==◌, Bool, if◌then◌else◌, List, [], ◌∷◌, ◌++◌, length, drop, get_or, filter, codes, decimal, unwrap_or, Option, Some, None}
use Rattle.std.specs.Option.{is_some}
use Rattle.std.specs.List.{flat_map}
use Rattle.venue_words.specs.declared.command.Event.{Event}
use Rattle.venue_words.specs.declared.config.Config.{Config}
use Rattle.venue_words.specs.declared.price.Best.{Best}
use Rattle.venue_words.specs.declared.price.Side.{Side}
use Rattle.venue_words.specs.declared.price.Side.TheVariants.{Buy, Sell}
use Rattle.venue_words.specs.declared.report.Report.{Report}
use Rattle.venue_words.specs.Best.{best_of}
use Rattle.fix_write.specs.Moments.{moment_text}
use Rattle.exec_reports.specs.Parts.{first_in, id_in, last_price_in, last_quantity_in, limit_in, side_in}
use Rattle.exec_reports.specs.Texts.{order_id, price_text}
use Rattle.quote_text.specs.Sides.{side_text}
use Rattle.listing.specs.Commands.{name_at}
use Rattle.listing.specs.Lines.{ended}
use Rattle.audit_core.specs.Audited.{run_of}
use Rattle.audit_core.specs.Telling.{Telling, reports_of_last}
use Rattle.audit_tables.specs.Cells.{cell, id_text}

-- a trade, by what the order that buys and the order that sells are told, and the side of the one that took
pub record Trade : Type 0 where
  pub buy : Report
  pub sell : Report
  pub taker : Side

-- whether it tells of a trade
abbrev pub is_traded : Report → Bool
is_traded report = is_some (last_quantity_in report.kind)

-- whether it tells of an order that buys
abbrev pub is_buy : Report → Bool
is_buy report = side_in report.kind == 49

-- the trade of which two reports tell
abbrev pub trade_of : Report → Report → Trade
trade_of taker contra =
    if is_buy taker
    then (record { buy = taker; sell = contra; taker = Buy })
    else (record { buy = contra; sell = taker; taker = Sell })

-- reports of trades stand two by two, the taker's first
abbrev pub two_by_two : List Report → List Trade
two_by_two [] = []
two_by_two (taker ∷ []) = []
two_by_two (taker ∷ contra ∷ more) = trade_of taker contra ∷ two_by_two more

-- the trades of which reports tell
abbrev pub trades_in : List Report → List Trade
trades_in reports = two_by_two (filter is_traded reports)

-- the first report from a place on that tells of a trade stands at this one
pub record IsNextTraded (reports : List Report) (start place : ℕ) : Type 0 where
  pub behind : start ≤ place
  pub within : place < length reports
  pub report : Report
  pub here : report ≡ get_or reports place report
  pub rest : filter is_traded (drop start reports) ≡ report ∷ filter is_traded (drop (place + 1) reports)

-- the national quote behind a journal
abbrev pub best_behind : Config → ℕ → List Event → Best
best_behind config symbol journal = best_of (run_of config symbol journal).state.markets

-- ---- cells

-- the orders of a trade and their members
abbrev pub parties : Config → ℕ → Report → Report → List ℕ
parties config symbol buy sell =
    cell (order_id (name_at config.symbols symbol) (first_in buy.kind))
    ++ cell (order_id (name_at config.symbols symbol) (first_in sell.kind))
    ++ cell (name_at config.members buy.member)
    ++ cell (name_at config.members sell.member)

-- SYMBOL,EVENT,MOMENT,PRICE,QUANTITY,BUY_ORDER,SELL_ORDER,BUYER,SELLER,BID,OFFER
unfoldable pub trade_cells : Config → ℕ → Best → Report → Report → List ℕ
trade_cells config symbol best buy sell =
    name_at config.symbols symbol
    ++ cell (decimal buy.event)
    ++ cell (moment_text buy.moment)
    ++ cell (price_text (unwrap_or (last_price_in buy.kind) 0))
    ++ cell (decimal (unwrap_or (last_quantity_in buy.kind) 0))
    ++ parties config symbol buy sell
    ++ cell (side_text best.bid)
    ++ cell (side_text best.offer)

-- whose order took
abbrev pub taker_word : Side → List ℕ
taker_word Buy = codes "buyer"
taker_word Sell = codes "seller"

-- whether a price is that of a limit; a stroke where there is no limit
abbrev pub limit_word : Option ℕ → ℕ → List ℕ
limit_word None price = codes "-"
limit_word (Some limit) price = if limit == price then codes "yes" else codes "no"

-- whether an order traded at its limit
abbrev pub at_limit : Report → List ℕ
at_limit report = limit_word (limit_in report.kind) (unwrap_or (last_price_in report.kind) 0)

-- BUYER_CLORDID,SELLER_CLORDID,TAKER,BUYER_AT_LIMIT,SELLER_AT_LIMIT; each ClOrdID is the one that the order had when it traded
unfoldable pub taking_cells : Side → Report → Report → List ℕ
taking_cells taker buy sell =
    cell (id_text (id_in buy.kind))
    ++ cell (id_text (id_in sell.kind))
    ++ cell (taker_word taker)
    ++ cell (at_limit buy)
    ++ cell (at_limit sell)

-- the cells of a trade
abbrev pub trade_line : Config → ℕ → Best → Trade → List ℕ
trade_line config symbol best trade =
    trade_cells config symbol best trade.buy trade.sell ++ taking_cells trade.taker trade.buy trade.sell

-- lines of trades at a national quote
abbrev pub trade_lines : Config → ℕ → Best → List Trade → List ℕ
trade_lines config symbol best trades = flat_map (λ trade. ended (trade_line config symbol best trade)) trades

-- the trades of the last event of a journal, at the national quote behind it
abbrev pub trades_text : Config → ℕ → List Event → List ℕ
trades_text config symbol journal =
    trade_lines config symbol (best_behind config symbol journal) (trades_in (reports_of_last config symbol journal))

-- the table tells of the trades of each event
abbrev pub trade_telling : Telling
trade_telling = record { event = trades_text; end = λ _ _ _. [] }

abbrev pub trade_header : List ℕ
trade_header = ended (codes "symbol,event,moment,price,quantity,buy_order,sell_order,buyer,seller,bid,offer,buyer_clordid,seller_clordid,taker,buyer_at_limit,seller_at_limit")
