use Rattle.std.proofs.Common.{rules}
use Rattle.audit_feeds.proofs.departures.is_outside.Goals as goal

pub returns : goal.returns
returns c = search rules
