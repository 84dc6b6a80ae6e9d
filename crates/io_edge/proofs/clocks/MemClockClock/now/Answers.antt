use Rattle.std.proofs.Common.{rules}
use Rattle.io_edge.proofs.clocks.MemClockClock.now.Goals as goal

pub returns : goal.returns
returns c = search rules
