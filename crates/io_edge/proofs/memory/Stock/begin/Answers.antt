use Rattle.std.proofs.Common.{rules}
use Rattle.io_edge.proofs.memory.Stock.begin.Goals as goal

pub returns-then-is_some-clause-opens : goal.returns-then-is_some-clause-opens
returns-then-is_some-clause-opens c = search rules
