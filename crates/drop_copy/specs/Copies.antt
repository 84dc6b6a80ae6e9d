-- Copies of the reports of listed members.
use Rattle.std.specs.Prelude.{ℕ, ◌+◌, ◌*◌, List, ◌++◌, length, map, take, slice_index}
use Rattle.std.specs.List.{flat_map, range_with_len}
use Rattle.venue_words.specs.declared.config.Config.{Config}
use Rattle.venue_words.specs.declared.report.Report.{Report}
use Rattle.venue_words.specs.Journals.{reports_of}
use Rattle.fix_write.specs.Fields.{field}
use Rattle.exec_reports.specs.Bodies.{body_of, kind_of}
use Rattle.session_core.specs.declared.message.Message.{Message}
use Rattle.session_core.specs.Bodies.{message}
use Rattle.member_gate.specs.Answering.{name_at}
use Rattle.member_gate.specs.Reporting.{cursor_at}
use Rattle.drop_copy.specs.declared.tags.TheConstants.{COPIED_MEMBER}

-- the body of a report, and behind it the member's name
unfoldable pub copy_body : Report → List ℕ → List ℕ → List ℕ
copy_body report symbol member = body_of report symbol member ++ field COPIED_MEMBER member

-- the copy of a report as a message: its type is the report's
abbrev pub copy_of : List ℕ → List ℕ → Report → Message
copy_of member symbol report = message (kind_of report) (copy_body report symbol member)

-- the member's reports among the positions from one on to before another one
abbrev pub reports_between : ℕ → ℕ → ℕ → List Report → List Report
reports_between member from to reports = reports_of member from (take to reports)

-- their copies
unfoldable pub copies : Config → List ℕ → ℕ → ℕ → ℕ → List Report → List Message
copies config symbol member from to reports =
    map (copy_of (name_at config.members member) symbol) (reports_between member from to reports)

-- ---- all listed members, at all symbols

-- how many reports of a symbol were gone through for the listed member at a place
abbrev pub cursor_of : List ℕ → List ℕ → ℕ → ℕ → ℕ
cursor_of members cursors symbol place = cursor_at cursors (symbol * length members + place)

-- the copies for the listed member at a place, between his cursors of a symbol before and after
abbrev pub copies_at : Config → List ℕ → List ℕ → List ℕ → (ℕ → List Report) → ℕ → ℕ → List Message
copies_at config members before after reports symbol place =
    copies config (name_at config.symbols symbol) (slice_index members place)
    (cursor_of members before symbol place) (cursor_of members after symbol place) (reports symbol)

-- those of a symbol, for each listed member in their order
abbrev pub symbol_copies : Config → List ℕ → List ℕ → List ℕ → (ℕ → List Report) → ℕ → List Message
symbol_copies config members before after reports symbol =
    flat_map (copies_at config members before after reports symbol) (range_with_len 0 (length members))

-- those of all symbols, in the config's order
abbrev pub copies_past : Config → List ℕ → List ℕ → List ℕ → (ℕ → List Report) → List Message
copies_past config members before after reports =
    flat_map (symbol_copies config members before after reports) (range_with_len 0 (length config.symbols))
