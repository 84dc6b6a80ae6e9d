use Rattle.std.proofs.Common.{rules}
use Rattle.feeds_core.proofs.feed_list.asked.Goals as goal

pub returns : goal.returns
returns c = search rules
