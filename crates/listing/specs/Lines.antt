-- The lines of a listing, each without its LF.
use Rattle.std.specs.Prelude.{ℕ, List, [], ◌∷◌, ◌++◌, codes, decimal}
use Rattle.venue_words.specs.declared.command.Event.{Event}
use Rattle.venue_words.specs.declared.config.Config.{Config}
use Rattle.venue_words.specs.declared.report.Report.{Report}
use Rattle.fix_write.specs.Moments.{moment_text}
use Rattle.fix_write.specs.MessageTypes.{byte_of}
use Rattle.exec_reports.specs.Bodies.{byte, body_of, kind_of}
use Rattle.script_text.specs.Escaping.{escape_text}
use Rattle.listing.specs.Commands.{name_at, word, command_text}

-- S SYMBOL EVENTS REPORTS
unfoldable pub symbol_line : List ℕ → ℕ → ℕ → List ℕ
symbol_line symbol events reports = codes "S" ++ word symbol ++ word (decimal events) ++ word (decimal reports)

-- J SYMBOL NUMBER FEED MOMENT COMMAND
unfoldable pub event_line : Config → ℕ → Event → List ℕ
event_line config symbol event =
    codes "J"
    ++ word (name_at config.symbols symbol)
    ++ word (decimal event.number)
    ++ word (decimal event.feed)
    ++ word (moment_text event.moment)
    ++ word (command_text config event.command)

-- the body of a report as text
abbrev pub report_body : Config → ℕ → Report → List ℕ
report_body config symbol report =
    escape_text (body_of report (name_at config.symbols symbol) (name_at config.members report.member))

-- R SYMBOL EVENT PLACE MEMBER MSGTYPE BODY
unfoldable pub report_line : Config → ℕ → Report → List ℕ
report_line config symbol report =
    codes "R"
    ++ word (name_at config.symbols symbol)
    ++ word (decimal report.event)
    ++ word (decimal report.place)
    ++ word (name_at config.members report.member)
    ++ word (byte (byte_of (kind_of report)))
    ++ word (report_body config symbol report)

-- a line with its LF
abbrev pub ended : List ℕ → List ℕ
ended line = line ++ 10 ∷ []
