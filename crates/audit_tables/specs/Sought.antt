-- Which event of a symbol's journal is meant by a time of day, and by the identifier of an order.
use Rattle.std.specs.Prelude.{ℕ, ◌-◌, ◌%◌, nat_le, Bool, false, ◌&&◌, if◌then◌else◌, ℤ, pos, negsuc, List, fold, Option, Some, None, option_map, option_and_then}
use Rattle.std.specs.List.{find}
use Rattle.std.specs.Str.{bytes_eq}
use Rattle.venue_words.specs.declared.command.Event.{Event}
use Rattle.venue_words.specs.declared.config.Config.{Config}
use Rattle.venue_words.specs.declared.report.Execution.TheVariants.{Accepted, Replaced}
use Rattle.venue_words.specs.declared.report.Kind.{Kind}
use Rattle.venue_words.specs.declared.report.Kind.TheVariants.{Order}
use Rattle.venue_words.specs.declared.report.Report.{Report}
use Rattle.exec_reports.specs.Parts.{first_in}
use Rattle.listing.specs.Commands.{name_at}
use Rattle.audit_core.specs.Audited.{run_of}

-- ---- times

-- the milliseconds since midnight, UTC
unfoldable pub time_of_day : ℤ → ℕ
time_of_day (pos n) = n % 86400000
time_of_day (negsuc n) = 86399999 - n % 86400000

-- the last of some events that came no later than at this time of day
abbrev pub last_by : ℕ → List Event → Option ℕ
last_by time events =
    fold (λ found event. if nat_le (time_of_day event.moment) time then Some event.number else found) None events

-- the event behind which a symbol's book stood at a time of day
abbrev pub event_by : ℕ → Config → ℕ → List Event → Option ℕ
event_by time config symbol journal = last_by time journal

-- ---- identifiers

-- whether it tells that an order has this identifier from its event on: it entered with it, or was replaced under it
unfoldable pub gives_id : List ℕ → Kind → Bool
gives_id id (Order view Accepted) = bytes_eq view.id id
gives_id id (Order view (Replaced orig)) = bytes_eq view.id id
gives_id id _ = false

-- whether the member is told so
abbrev pub tells_id : Config → List ℕ → List ℕ → Report → Bool
tells_id config member id report = bytes_eq (name_at config.members report.member) member && gives_id id report.kind

-- the first report that tells the member so
abbrev pub first_with : Config → List ℕ → List ℕ → List Report → Option Report
first_with config member id reports = find (tells_id config member id) reports

-- the event from which on an order of the member had the identifier
abbrev pub event_with : List ℕ → List ℕ → Config → ℕ → List Event → Option ℕ
event_with member id config symbol journal =
    option_map (λ report. report.event) (first_with config member id (run_of config symbol journal).reports)

-- the event at which that order entered
abbrev pub entry_with : List ℕ → List ℕ → Config → ℕ → List Event → Option ℕ
entry_with member id config symbol journal =
    option_and_then (λ report. first_in report.kind) (first_with config member id (run_of config symbol journal).reports)
