use Rattle.peg_groups.proofs.Scan.{keep_higher}
use Rattle.peg_groups.proofs.first.look_at.Goals as goal

pub returns-then-is_lower-clause-best : goal.returns-then-is_lower-clause-best
returns-then-is_lower-clause-best g c = keep_higher c.args.groups.now.entries c.args.i c.group_at-group.ensures.0 c.group_at-group.result.now c.args.best c.group_at-group.ensures.1 (rw c.current.ensures at (c.is_lower.ensures c.if-is_lower.true)) c.requires.best
