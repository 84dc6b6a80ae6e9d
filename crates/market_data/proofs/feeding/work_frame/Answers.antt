use Rattle.std.proofs.Common.{rules}
use Rattle.market_data.proofs.feeding.work_frame.Goals as goal

pub returns-clause-session : goal.returns-clause-session
returns-clause-session c = search rules

pub returns-clause-lines : goal.returns-clause-lines
returns-clause-lines c = search rules

pub returns-clause-last : goal.returns-clause-last
returns-clause-last c = search rules

pub returns-clause-ended : goal.returns-clause-ended
returns-clause-ended c = search rules
