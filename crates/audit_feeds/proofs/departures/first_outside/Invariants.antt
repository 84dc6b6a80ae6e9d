-- Every event so far is of a feed.
use Rattle.std.proofs.Common.{◌≡◌, length}
use Rattle.audit_feeds.specs.Departures.{first_outside}
use Rattle.audit_feeds.proofs.departures.first_outside.Given as goal

abbrev pub invariant-loop-rest : goal.invariant-loop-rest
invariant-loop-rest l = first_outside l.count l.rest ≡ first_outside l.count l.journal

abbrev pub decreases-loop-rest : goal.decreases-loop-rest
decreases-loop-rest l = length l.rest
