-- The reports so far, and those of the events that are left, are all of the member's.
use Rattle.std.proofs.Common.{◌≡◌, ◌++◌, drop}
use Rattle.venue_trials.specs.EventReports.{reports_to}
use Rattle.venue_trials.proofs.tests.gates.journal.JournalHeld.look.Given as goal

abbrev pub invariant-loop-event : goal.invariant-loop-event
invariant-loop-event l = l.reports ++ reports_to l.member (drop l.event-index l.event-items) ≡ reports_to l.member l.event-items
