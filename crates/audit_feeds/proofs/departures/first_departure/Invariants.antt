-- So far each event of the feed is its command.
use Rattle.std.proofs.Common.{◌≡◌, ◌≤◌, ◌+◌, length}
use Rattle.feed_work.specs.Feeds.{commands_at}
use Rattle.audit_feeds.specs.Departures.{events_of, first_departure}
use Rattle.audit_feeds.proofs.departures.first_departure.Given as goal

abbrev pub invariant-places : goal.invariant-places
invariant-places l = record { same : first_departure l.place (events_of l.feed l.events) (commands_at l.symbol l.asked) ≡ first_departure 0 (events_of l.feed l.journal) (commands_at l.symbol l.commands); most : l.place + length l.events ≤ length l.journal }

abbrev pub decreases-places : goal.decreases-places
decreases-places l = length l.events
