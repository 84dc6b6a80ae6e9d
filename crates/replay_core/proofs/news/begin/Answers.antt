use Rattle.std.proofs.Common.{rules}
use Rattle.replay_core.proofs.news.begin.Goals as goal

pub returns-in-Some-clause-own : goal.returns-in-Some-clause-own
returns-in-Some-clause-own c = search rules
