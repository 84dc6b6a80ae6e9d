use Rattle.std.proofs.Common.{◌≡◌, take}
use Rattle.eager_meaning.specs.Step.{runs}
use Rattle.plain_market.proofs.plain.run.Given as goal

-- the book and the reports are those of the events so far
abbrev pub invariant-loop-event : goal.invariant-loop-event
invariant-loop-event l =
    (l.book ≡ (runs l.markets l.tick (take l.event-index l.events)).state)
    × (l.reports.items ≡ (runs l.markets l.tick (take l.event-index l.events)).reports)
