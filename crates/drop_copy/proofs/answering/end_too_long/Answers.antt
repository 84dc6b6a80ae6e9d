use Rattle.std.proofs.Common.{rules}
use Rattle.drop_copy.proofs.answering.end_too_long.Goals as goal

pub returns-clause-session : goal.returns-clause-session
returns-clause-session c = search rules

pub returns-clause-replies : goal.returns-clause-replies
returns-clause-replies c = search rules
