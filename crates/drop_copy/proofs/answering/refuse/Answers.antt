use Rattle.std.proofs.Common.{rules}
use Rattle.drop_copy.proofs.answering.refuse.Goals as goal

pub returns-clause-session : goal.returns-clause-session
returns-clause-session c = search rules

pub returns-clause-reply : goal.returns-clause-reply
returns-clause-reply c = search rules
