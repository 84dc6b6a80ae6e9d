-- The trades of a symbol as rows of the page.
use Rattle.std.specs.Prelude.{ℕ, List, [], ◌∷◌, ◌++◌, codes, map, unwrap_or}
use Rattle.venue_words.specs.declared.command.Event.{Event}
use Rattle.venue_words.specs.declared.config.Config.{Config}
use Rattle.venue_words.specs.declared.price.Best.{Best}
use Rattle.venue_words.specs.declared.report.Report.{Report}
use Rattle.exec_reports.specs.Parts.{last_price_in, last_quantity_in}
use Rattle.exec_reports.specs.Texts.{price_text}
use Rattle.quote_text.specs.Sides.{side_text}
use Rattle.audit_core.specs.Telling.{reports_of_last}
use Rattle.audit_html.specs.Numbers.{count_text}
use Rattle.audit_tables.specs.Trades.{Trade, best_behind, taker_word, trades_in}
use Rattle.audit_report.specs.Cells.{link_of, member_of, td, when_cells}

-- PRICE SHARES
unfoldable pub price_cells : Report → List ℕ
price_cells report =
    td (price_text (unwrap_or (last_price_in report.kind) 0)) ++ td (count_text (unwrap_or (last_quantity_in report.kind) 0))

-- BID OFFER
unfoldable pub quote_cells : Best → List ℕ
quote_cells best = td (side_text best.bid) ++ td (side_text best.offer)

-- TIME EVENT PRICE SHARES BID OFFER
unfoldable pub market_cells : Best → Report → List ℕ
market_cells best report = when_cells report ++ price_cells report ++ quote_cells best

-- MEMBER CLORDID of one order of a trade
unfoldable pub party_cells : Config → ℕ → Report → List ℕ
party_cells config symbol report = td (member_of config report) ++ td (link_of config symbol report)

-- a trade: TIME EVENT PRICE SHARES BID OFFER BUYER CLORDID SELLER CLORDID TAKER
abbrev pub trade_row : Config → ℕ → Best → Trade → List ℕ
trade_row config symbol best trade =
    codes "<tr class=\"row\">"
    ++ market_cells best trade.buy
    ++ party_cells config symbol trade.buy
    ++ party_cells config symbol trade.sell
    ++ td (taker_word trade.taker)
    ++ 10 ∷ []

-- the rows of some trades at a national quote
abbrev pub rows_at : Config → ℕ → Best → List Trade → List (List ℕ)
rows_at config symbol best trades = map (trade_row config symbol best) trades

-- the rows of the last event of a journal
abbrev pub event_rows : Config → ℕ → List Event → List (List ℕ)
event_rows config symbol journal =
    rows_at config symbol (best_behind config symbol journal) (trades_in (reports_of_last config symbol journal))

-- the rows of these events, after those before
abbrev pub rows_from : Config → ℕ → List Event → List Event → List (List ℕ)
rows_from config symbol before [] = []
rows_from config symbol before (event ∷ later) =
    event_rows config symbol (before ++ event ∷ []) ++ rows_from config symbol (before ++ event ∷ []) later

-- the trades of a journal
abbrev pub trade_rows : Config → ℕ → List Event → List (List ℕ)
trade_rows config symbol journal = rows_from config symbol [] journal
