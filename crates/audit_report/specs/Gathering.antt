-- What is gathered of a symbol while its events go by.
use Rattle.std.specs.Prelude.{◌≡◌, ◌==◌, ◌++◌, if◌then◌else◌, ℕ, List, []}
use Rattle.venue_words.specs.declared.command.Event.{Event}
use Rattle.venue_words.specs.declared.config.Config.{Config}
use Rattle.audit_html.specs.Chunks.{Holds}
use Rattle.audit_html.specs.declared.chunks.Chunks.{Chunks}
use Rattle.audit_report.specs.declared.parts.Part.{Part}
use Rattle.audit_report.specs.declared.parts.Part.TheVariants.{Trades}
use Rattle.audit_report.specs.Parts.{box}
use Rattle.audit_report.specs.Sections.{body_text, share_of}
use Rattle.audit_report.specs.TradeRows.{trade_rows}

-- the rows of the trades of a journal
pub record HasTrades (config : Config) (symbol : ℕ) (journal : List Event) (chunks : Chunks) : Type 0 where
  pub rows : Holds (box Trades) (trade_rows config symbol journal) chunks
  pub most : chunks.most ≡ share_of Trades config

-- the rows that are held of a part, with the box that searches them
abbrev pub body_held : Part → List ℕ → Chunks → List ℕ
body_held part symbol chunks =
    if chunks.shown == 0 then [] else body_text part symbol (chunks.text.items ++ (box part).end)
