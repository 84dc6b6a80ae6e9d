-- What the page tells of a symbol: its trades, its orders and its refused requests.
use Rattle.std.specs.Prelude.{ℕ, ◌/◌, ◌==◌, nat_lt, nat_le, ◌&&◌, if◌then◌else◌, List, [], ◌∷◌, ◌++◌, codes, length, take, max}
use Rattle.venue_words.specs.declared.command.Event.{Event}
use Rattle.venue_words.specs.declared.config.Config.{Config}
use Rattle.listing.specs.Commands.{name_at}
use Rattle.audit_core.specs.Audited.{run_of}
use Rattle.audit_core.specs.Telling.{Telling}
use Rattle.audit_html.specs.Chunks.{boxed}
use Rattle.audit_html.specs.Html.{shown}
use Rattle.audit_html.specs.Numbers.{count_text}
use Rattle.audit_report.specs.declared.parts.Part.{Part}
use Rattle.audit_report.specs.declared.parts.Part.TheVariants.{Trades, Orders, Refusals}
use Rattle.audit_report.specs.Orders.{order_rows}
use Rattle.audit_report.specs.Parts.{box, class, hint, how, letter, many, most, title}
use Rattle.audit_report.specs.Refusals.{refusal_rows}
use Rattle.audit_report.specs.TradeRows.{trade_rows}

-- so many rows of a part are shown of each symbol: an equal share
abbrev pub share_of : Part → Config → ℕ
share_of part config = most part / max 1 (length config.symbols)

-- a part is open from the start where it is short
abbrev pub open_text : ℕ → List ℕ
open_text all = if nat_lt 0 all && nat_le all 60 then codes " open" else []

-- that only the first rows are here
unfoldable pub counts_words : ℕ → ℕ → List ℕ
counts_words most all = codes "<p>The first " ++ count_text most ++ codes " of " ++ count_text all

unfoldable pub cut_words : Part → ℕ → ℕ → List ℕ
cut_words part most all =
    counts_words most all ++ codes " " ++ many part
    ++ codes " are here. All of them: <code>" ++ how part ++ codes "</code>.</p>"

-- which is said where there are more
abbrev pub cut_text : Part → ℕ → ℕ → List ℕ
cut_text part most all = if nat_lt most all then cut_words part most all else []

-- the anchor of a part: a letter, and the symbol
unfoldable pub part_anchor : Part → List ℕ → List ℕ
part_anchor part symbol = letter part ++ codes "-" ++ shown symbol

-- the box that searches a part
unfoldable pub hint_text : Part → List ℕ
hint_text part = codes "\" placeholder=\"" ++ hint part ++ codes "\" aria-label=\"" ++ hint part ++ codes "\" hidden>"

unfoldable pub find_text : Part → List ℕ → List ℕ
find_text part symbol =
    codes "<input class=\"find\" type=\"search\" data-of=\"" ++ part_anchor part symbol ++ hint_text part

-- how the rows of a part begin
unfoldable pub rows_begin : Part → List ℕ → List ℕ
rows_begin part symbol =
    codes "<div class=\"" ++ class part ++ codes "\" id=\"" ++ part_anchor part symbol ++ codes "\">"

-- it, and a text with rows
unfoldable pub body_text : Part → List ℕ → List ℕ → List ℕ
body_text part symbol rows =
    find_text part symbol ++ rows_begin part symbol ++ rows ++ codes "</div>"

abbrev pub body_if : Part → List ℕ → ℕ → List (List ℕ) → List ℕ
body_if part symbol most rows =
    if length (take most rows) == 0 then [] else body_text part symbol (boxed (box part) (take most rows))

-- how many rows there are
unfoldable pub count_words : ℕ → List ℕ
count_words all = codes " <span class=\"soft\">" ++ count_text all ++ codes "</span></summary><div class=\"in\">"

unfoldable pub summary_text : Part → ℕ → List ℕ
summary_text part all = codes "<details class=\"part\"" ++ open_text all ++ codes "><summary>" ++ title part ++ count_words all

-- a part, which opens at a click: how many rows there are, and what stands in it
unfoldable pub part_frame : Part → ℕ → ℕ → List ℕ → List ℕ
part_frame part all most body =
    summary_text part all
    ++ cut_text part most all
    ++ body
    ++ codes "</div></details>" ++ 10 ∷ []

-- a part of a symbol: the first of its rows, and how many there are
abbrev pub part_text : Part → List ℕ → ℕ → List (List ℕ) → List ℕ
part_text part symbol most rows = part_frame part (length rows) most (body_if part symbol most rows)

abbrev pub part_of : Part → Config → ℕ → List (List ℕ) → List ℕ
part_of part config symbol rows = part_text part (name_at config.symbols symbol) (share_of part config) rows

-- its trades, its orders and its refused requests
abbrev pub section_text : Config → ℕ → List Event → List ℕ
section_text config symbol journal =
    part_of Trades config symbol (trade_rows config symbol journal)
    ++ part_of Orders config symbol (order_rows config symbol journal)
    ++ part_of Refusals config symbol (refusal_rows config (run_of config symbol journal).reports)

-- all is told at a symbol's end
abbrev pub report_telling : Telling
report_telling = record { event = λ _ _ _. []; end = section_text }
