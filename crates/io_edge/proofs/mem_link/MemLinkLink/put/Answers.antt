use Rattle.std.proofs.Common.{rules}
use Rattle.io_edge.proofs.mem_link.MemLinkLink.put.Goals as goal

pub returns-clause-bytes : goal.returns-clause-bytes
returns-clause-bytes c = search rules
