-- One report of each event, as the journal of this crate's tests makes it.
use Rattle.std.specs.Prelude.{ℕ, ◌==◌, List, [], ◌++◌, map, filter}
use Rattle.std.proofs.lemmas.List.{map-append}
use Rattle.venue_words.specs.Journals.{StartsWith}
use Rattle.venue_words.specs.declared.command.Event.{Event}
use Rattle.venue_words.specs.declared.report.Report.{Report}
use Rattle.venue_words.specs.declared.report.Kind.TheVariants.{Unknown}

abbrev pub report_of : Event → Report
report_of event = record { event = event.number; place = 1; member = event.feed; moment = event.moment; kind = Unknown [] 0 }

abbrev pub reports_of_events : List Event → List Report
reports_of_events events = map report_of events

-- those to one member
abbrev pub reports_to : ℕ → List Event → List Report
reports_to member events = filter (λ report. report.member == member) (reports_of_events events)

pub reports_grow : (before after : List Event) → StartsWith (reports_of_events (before ++ after)) (reports_of_events before)
reports_grow before after = (map report_of after, map-append report_of before after)
