-- The rows of one more event.
use Rattle.std.proofs.Common.{◌≡◌, ℕ, List, [], ◌∷◌, ◌++◌, sym, ◌∙◌, ap, subst, append_assoc, append-nil}
use Rattle.venue_words.specs.declared.command.Event.{Event}
use Rattle.venue_words.specs.declared.config.Config.{Config}
use Rattle.venue_words.specs.declared.price.Best.{Best}
use Rattle.venue_words.specs.declared.report.Report.{Report}
use Rattle.venue_words.specs.Best.{best_of}
use Rattle.audit_core.specs.Telling.{reports_of_last}
use Rattle.audit_html.specs.Chunks.{Adds, Holds}
use Rattle.audit_html.specs.declared.chunks.Chunks.{Chunks}
use Rattle.audit_tables.specs.Quotes.{HasQuotes}
use Rattle.audit_tables.specs.Trades.{best_behind, trades_in}
use Rattle.audit_report.specs.declared.parts.Part.TheVariants.{Trades}
use Rattle.audit_report.specs.Gathering.{HasTrades}
use Rattle.audit_report.specs.Parts.{box}
use Rattle.audit_report.specs.Sections.{share_of}
use Rattle.audit_report.specs.TradeRows.{event_rows, rows_at, rows_from, trade_rows}

rows_more : (config : Config) (symbol : ℕ) (before events : List Event) (event : Event)
    → rows_from config symbol before (events ++ event ∷ []) ≡ rows_from config symbol before events ++ event_rows config symbol (before ++ (events ++ event ∷ []))
rows_more config symbol before [] event = append-nil (event_rows config symbol (before ++ event ∷ []))
rows_more config symbol before (first ∷ events) event =
    let here = event_rows config symbol (before ++ first ∷ []) in
    ap (λ (rows : List (List ℕ)). here ++ rows) (rows_more config symbol (before ++ first ∷ []) events event)
    ∙ ap (λ (j : List Event). here ++ (rows_from config symbol (before ++ first ∷ []) events ++ event_rows config symbol j)) (append_assoc before (first ∷ []) (events ++ event ∷ []))
    ∙ sym (append_assoc here (rows_from config symbol (before ++ first ∷ []) events) (event_rows config symbol (before ++ (first ∷ events ++ event ∷ []))))

event_told : (config : Config) (symbol : ℕ) (journal : List Event) (markets : List Best) (best : Best) (made : List Report)
    → HasQuotes config symbol journal markets → best ≡ best_of markets → made ≡ reports_of_last config symbol journal
    → rows_at config symbol best (trades_in made) ≡ event_rows config symbol journal
event_told config symbol journal markets best made has best_is made_is =
    ap (λ (b : Best). rows_at config symbol b (trades_in made)) (best_is ∙ ap (λ (m : List Best). best_of m) has.quotes)
    ∙ ap (λ (r : List Report). rows_at config symbol (best_behind config symbol journal) (trades_in r)) made_is

-- the trades of one more event
pub trades_more : (config : Config) (symbol : ℕ) (before journal : List Event) (event : Event) (markets : List Best) (best : Best) (made : List Report) (old new : Chunks)
    → HasTrades config symbol before old → journal ≡ before ++ event ∷ [] → HasQuotes config symbol journal markets → best ≡ best_of markets
    → made ≡ reports_of_last config symbol journal → Adds (box Trades) (rows_at config symbol best (trades_in made)) old new
    → HasTrades config symbol journal new
trades_more config symbol before journal event markets best made old new has whole quotes best_is made_is adds =
    let rows : trade_rows config symbol before ++ rows_at config symbol best (trades_in made) ≡ trade_rows config symbol journal =
    ap (λ (rows : List (List ℕ)). trade_rows config symbol before ++ rows) (event_told config symbol journal markets best made quotes best_is made_is)
    ∙ ap (λ (j : List Event). trade_rows config symbol before ++ event_rows config symbol j) whole
    ∙ sym (rows_more config symbol [] before event)
    ∙ ap (λ (j : List Event). trade_rows config symbol j) (sym whole) in record {
      rows = subst (λ (rows : List (List ℕ)). Holds (box Trades) rows new) rows (adds.rows (trade_rows config symbol before) has.rows);
      most = adds.most ∙ has.most;
    }

-- before the first event there are none
pub no_trades : (config : Config) (symbol : ℕ) (chunks : Chunks) → Holds (box Trades) [] chunks → chunks.most ≡ share_of Trades config → HasTrades config symbol [] chunks
no_trades config symbol chunks none most = record { rows = none; most = most }
