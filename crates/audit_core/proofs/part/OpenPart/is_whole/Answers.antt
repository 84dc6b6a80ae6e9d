use Rattle.std.proofs.Common.{rules}
use Rattle.audit_core.proofs.part.OpenPart.is_whole.Goals as goal

pub returns-then-front-self-clause-value : goal.returns-then-front-self-clause-value
returns-then-front-self-clause-value c = search rules

pub returns-then-front-self-clause-read : goal.returns-then-front-self-clause-read
returns-then-front-self-clause-read c = search rules
