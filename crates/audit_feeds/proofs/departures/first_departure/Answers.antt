use Rattle.std.proofs.Common.{rules}
use Rattle.audit_feeds.specs.Departures.{first_departure}
use Rattle.audit_feeds.proofs.departures.first_departure.Goals as goal

pub returns-in-Some-command-clause-departure : goal.returns-in-Some-command-clause-departure
unfolding first_departure
returns-in-Some-command-clause-departure c = search rules
