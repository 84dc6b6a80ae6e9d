use Rattle.std.proofs.Common.{rules}
use Rattle.line_work.proofs.pulling.pull_desk.Goals as goal

pub returns-clause-desk : goal.returns-clause-desk
returns-clause-desk g c = search rules

pub returns-clause-text : goal.returns-clause-text
returns-clause-text g c = search rules
