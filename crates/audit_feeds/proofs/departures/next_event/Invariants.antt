-- No event so far is of the feed.
use Rattle.std.proofs.Common.{◌≡◌, ◌≤◌, length}
use Rattle.audit_feeds.specs.Departures.{events_of}
use Rattle.audit_feeds.proofs.departures.next_event.Given as goal

abbrev pub invariant-loop-rest : goal.invariant-loop-rest
invariant-loop-rest l = record { same : events_of l.feed l.rest ≡ events_of l.feed l.journal; most : length l.rest ≤ length l.journal }

abbrev pub decreases-loop-rest : goal.decreases-loop-rest
decreases-loop-rest l = length l.rest
