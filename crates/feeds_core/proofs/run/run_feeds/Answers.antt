use Rattle.std.proofs.Common.{rules}
use Rattle.feeds_core.proofs.run.run_feeds.Goals as goal

pub returns-clause-run : goal.returns-clause-run
returns-clause-run g c = search rules

pub returns-clause-caused : goal.returns-clause-caused
returns-clause-caused g c = search rules

pub returns-clause-sure : goal.returns-clause-sure
returns-clause-sure g c = search rules
