use Rattle.std.proofs.Common.{rules}
use Rattle.io_edge.proofs.adapters.StreamSink.put_some.Goals as goal

pub returns-in_default-clause-cause : goal.returns-in_default-clause-cause
returns-in_default-clause-cause g c = search rules

pub returns-in-Ok-clause-count : goal.returns-in-Ok-clause-count
returns-in-Ok-clause-count g c = search rules
