-- The rows of trades, one by one.
use Rattle.std.proofs.Common.{◌≡◌, ℕ, ◌+◌, List, [], ◌∷◌, drop, get_or, sym, ap, subst}
use Rattle.std.specs.Prelude.{filter}
use Rattle.venue_words.specs.declared.config.Config.{Config}
use Rattle.venue_words.specs.declared.price.Best.{Best}
use Rattle.venue_words.specs.declared.report.Report.{Report}
use Rattle.audit_html.specs.Chunks.{Adds, Box}
use Rattle.audit_html.specs.declared.chunks.Chunks.{Chunks}
use Rattle.audit_html.proofs.Boxing.{added_none, added_then}
use Rattle.audit_tables.specs.Trades.{IsNextTraded, Trade, is_traded, trade_of, trades_in}
use Rattle.audit_tables.proofs.Pairing.{trades_odd, trades_on, trades_over}
use Rattle.audit_report.specs.TradeRows.{rows_at, trade_row}

-- the rows of the trades from a place of the reports on are added
abbrev pub AddsFrom : Box → Config → ℕ → Best → List Report → ℕ → Chunks → Chunks → Type 0
AddsFrom box config symbol best reports place old new = Adds box (rows_at config symbol best (trades_in (drop place reports))) old new

-- one more trade, and then the others
pub more_added : (box : Box) (config : Config) (symbol : ℕ) (best : Best) (reports : List Report) (place first second : ℕ) (taker contra : Report)
    (old now new : Chunks) → IsNextTraded reports place first → IsNextTraded reports (first + 1) second
    → taker ≡ get_or reports first taker → contra ≡ get_or reports second contra
    → Adds box (trade_row config symbol best (trade_of taker contra) ∷ []) old now
    → AddsFrom box config symbol best reports (second + 1) now new → AddsFrom box config symbol best reports place old new
more_added box config symbol best reports place first second taker contra old now new a b taker_is contra_is one others =
    added_then box (trade_row config symbol best (trade_of taker contra) ∷ []) (rows_at config symbol best (trades_in (drop (second + 1) reports)))
    (rows_at config symbol best (trades_in (drop place reports))) old now new one others
    (ap (rows_at config symbol best) (trades_on reports place first second taker contra a b taker_is contra_is))

none_from : (box : Box) (config : Config) (symbol : ℕ) (best : Best) (reports : List Report) (place : ℕ) (chunks : Chunks)
    → trades_in (drop place reports) ≡ [] → AddsFrom box config symbol best reports place chunks chunks
none_from box config symbol best reports place chunks none =
    subst (λ (trades : List Trade). Adds box (rows_at config symbol best trades) chunks chunks) (sym none) (added_none box chunks)

-- no more trades
pub none_added : (box : Box) (config : Config) (symbol : ℕ) (best : Best) (reports : List Report) (place : ℕ) (chunks : Chunks)
    → filter is_traded (drop place reports) ≡ [] → AddsFrom box config symbol best reports place chunks chunks
none_added box config symbol best reports place chunks none = none_from box config symbol best reports place chunks (trades_over reports place none)

-- a report of a trade without another one
pub odd_added : (box : Box) (config : Config) (symbol : ℕ) (best : Best) (reports : List Report) (place first : ℕ) (chunks : Chunks)
    → IsNextTraded reports place first → filter is_traded (drop (first + 1) reports) ≡ [] → AddsFrom box config symbol best reports place chunks chunks
odd_added box config symbol best reports place first chunks a none =
    none_from box config symbol best reports place chunks (trades_odd reports place first a none)
