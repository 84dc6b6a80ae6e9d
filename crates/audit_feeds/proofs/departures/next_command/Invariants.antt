-- No command so far is for the symbol.
use Rattle.std.proofs.Common.{◌≡◌, length}
use Rattle.feed_work.specs.Feeds.{commands_at}
use Rattle.audit_feeds.proofs.departures.next_command.Given as goal

abbrev pub invariant-loop-rest : goal.invariant-loop-rest
invariant-loop-rest l = commands_at l.symbol l.rest ≡ commands_at l.symbol l.commands

abbrev pub decreases-loop-rest : goal.decreases-loop-rest
decreases-loop-rest l = length l.rest
