use Rattle.std.proofs.Common.{rules}
use Rattle.audit_order.proofs.following.before_after.Goals as goal

pub returns-then-count-first : goal.returns-then-count-first
returns-then-count-first c = search rules
