use Rattle.std.proofs.Common.{rules}
use Rattle.feed_work.proofs.share.submit.Goals as goal

pub returns-clause-ok : goal.returns-clause-ok
returns-clause-ok g c = search rules
