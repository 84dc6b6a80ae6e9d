-- The requests that were refused as rows of the page.
use Rattle.std.specs.Prelude.{ℕ, List, [], ◌∷◌, ◌++◌, codes, decimal, Option, Some, None}
use Rattle.std.specs.List.{filter_map}
use Rattle.venue_words.specs.declared.config.Config.{Config}
use Rattle.venue_words.specs.declared.report.Kind.{Kind}
use Rattle.venue_words.specs.declared.report.Kind.TheVariants.{Rejected, Refused}
use Rattle.venue_words.specs.declared.report.Report.{Report}
use Rattle.venue_words.specs.declared.rule.Rule.{Rule}
use Rattle.venue_words.specs.Rules.{rule_number, rule_text}
use Rattle.exec_reports.specs.Parts.{id_in}
use Rattle.audit_html.specs.Html.{html_text, shown}
use Rattle.audit_report.specs.Cells.{member_of, td, when_cells}
use Rattle.audit_report.specs.Lives.{request_word}

-- which request was refused, and the rule that it broke
unfoldable pub refused_in : Kind → Option (List ℕ × Rule)
refused_in (Rejected id side quantity rule) = Some (codes "new order", rule)
refused_in (Refused id orig order request rule) = Some (request_word request, rule)
refused_in _ = None

-- MEMBER CLORDID
unfoldable pub who_cells : Config → Report → List ℕ
who_cells config report = td (member_of config report) ++ td (shown (id_in report.kind))

-- why a request was refused
unfoldable pub why_cell : Rule → List ℕ
why_cell rule =
    codes "<td class=\"words\">" ++ html_text (rule_text rule)
    ++ codes " <span class=\"soft\">(rule " ++ decimal (rule_number rule) ++ codes ")</span>" ++ 10 ∷ []

-- TIME EVENT MEMBER CLORDID REQUEST WHY
unfoldable pub refusal_row : Config → Report → List ℕ → Rule → List ℕ
refusal_row config report request rule =
    codes "<tr class=\"row\">" ++ when_cells report ++ who_cells config report ++ codes "<td>" ++ request ++ why_cell rule

abbrev pub row_if : Config → Report → Option (List ℕ × Rule) → Option (List ℕ)
row_if config report None = None
row_if config report (Some found) = Some (refusal_row config report found.0 found.1)

-- the row of a report, where it tells that a request was refused
abbrev pub row_of : Config → Report → Option (List ℕ)
row_of config report = row_if config report (refused_in report.kind)

-- those of which reports tell
abbrev pub refusal_rows : Config → List Report → List (List ℕ)
refusal_rows config reports = filter_map (row_of config) reports
