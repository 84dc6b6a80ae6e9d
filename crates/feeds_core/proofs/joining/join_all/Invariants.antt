-- The seats of the first feeds were joined.
use Rattle.std.proofs.Common.{◌≡◌, ◌≤◌, ◌-◌, ◌++◌, List, length, map}
use Rattle.std.specs.List.{All}
use Rattle.turn_gate.specs.Rule.{whole}
use Rattle.venue_core.specs.Joining.{HaveParts}
use Rattle.venue_core.specs.Venues.{AreSeatsOf, setup_in}
use Rattle.venue_words.specs.declared.limits.TheConstants.{MAX_FEEDS}
use Rattle.feed_work.specs.Feeds.{Asked}
use Rattle.feeds_core.specs.Joined.{AreOneParts, AllWorked, Collects, outcome_of}
use Rattle.feeds_core.proofs.joining.join_all.Given as goal

abbrev pub invariant-loop-one : goal.invariant-loop-one
invariant-loop-one g l =
    AreSeatsOf l.venue l.seats
    × HaveParts (whole - length l.one-iterator.rest.items) l.seats
    × (length l.one-iterator.rest.items ≤ MAX_FEEDS)
    × (l.fn.worked.items ≡ l.yielded ++ l.one-iterator.rest.items)
    × (length l.one-iterator.rest.items ≡ l.one-iterator.rest.len)
    × All (λ one. AreOneParts l.venue (outcome_of one.floor.seats one.refused)) l.one-iterator.rest.items
    × ((feeds : List (List Asked))
    → AllWorked (setup_in l.venue) 1 feeds (map (λ one. outcome_of one.floor.seats one.refused) l.yielded)
    → Collects (setup_in l.venue) feeds l.seats l.refused)
