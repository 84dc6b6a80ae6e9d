-- A journal walked together with its reports.
use Rattle.std.specs.Prelude.{ℕ, ◌==◌, List, [], ◌∷◌, ◌++◌, take, drop}
use Rattle.std.specs.List.{prefix_len}
use Rattle.venue_words.specs.declared.command.Event.{Event}
use Rattle.venue_words.specs.declared.config.Config.{Config}
use Rattle.venue_words.specs.declared.report.Report.{Report}
use Rattle.listing.specs.Listing.{event_text}

-- how many of the first reports are of the event with this number
abbrev pub count_of : ℕ → List Report → ℕ
count_of number reports = prefix_len (λ report. report.event == number) reports

-- each event with those of the first reports that are of it
abbrev pub walked : Config → ℕ → List Event → List Report → List ℕ
walked config symbol [] reports = []
walked config symbol (event ∷ events) reports =
    event_text config symbol event (take (count_of event.number reports) reports)
    ++ walked config symbol events (drop (count_of event.number reports) reports)
