-- Cells of the page.
use Rattle.std.specs.Prelude.{ℕ, List, ◌++◌, codes, decimal, unwrap_or}
use Rattle.venue_words.specs.declared.config.Config.{Config}
use Rattle.venue_words.specs.declared.report.Report.{Report}
use Rattle.exec_reports.specs.Parts.{first_in, id_in}
use Rattle.audit_columns.specs.Columns.{clock_of}
use Rattle.audit_html.specs.Html.{shown}
use Rattle.listing.specs.Commands.{name_at}

-- a cell; its end tag is left out, as HTML allows
abbrev pub td : List ℕ → List ℕ
td text = codes "<td>" ++ text

-- when a report was, and of which event it is: TIME EVENT
unfoldable pub when_cells : Report → List ℕ
when_cells report = td (clock_of report.moment) ++ td (decimal report.event)

-- where the page tells of the order that entered at an event: SYMBOL-EVENT
unfoldable pub anchor : Config → ℕ → ℕ → List ℕ
anchor config symbol first = shown (name_at config.symbols symbol) ++ codes "-" ++ decimal first

-- an identifier that leads there
unfoldable pub link : Config → ℕ → ℕ → List ℕ → List ℕ
link config symbol first id = codes "<a href=\"#" ++ anchor config symbol first ++ codes "\">" ++ shown id ++ codes "</a>"

-- the identifier of the order that a report shows
abbrev pub link_of : Config → ℕ → Report → List ℕ
link_of config symbol report = link config symbol (unwrap_or (first_in report.kind) 0) (id_in report.kind)

-- the member of a report
abbrev pub member_of : Config → Report → List ℕ
member_of config report = shown (name_at config.members report.member)
