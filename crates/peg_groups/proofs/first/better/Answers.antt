use Rattle.peg_groups.proofs.Scan.{keep_best, first_best, next_best, same_best}
use Rattle.std.proofs.Common.{sym, ◌∙◌}
use Rattle.peg_groups.proofs.first.better.Goals as goal

pub returns-in-None : goal.returns-in-None
returns-in-None c = let n = c.requires.new in keep_best _ c.args.i n.0 n.1 c.args.best n.2 (rw c.in-None.is at n.3) c.requires.best

pub returns-in-None-best : goal.returns-in-None-best
returns-in-None-best c = let n = c.requires.new in first_best _ c.args.i n.0 n.1 c.in-Some.new n.2 (rw c.in-Some.is at n.3) (rw c.in-None-best.is at c.requires.best)

pub returns-then-goes_first : goal.returns-then-goes_first
returns-then-goes_first c = let n = c.requires.new in next_best _ c.args.i c.in-Some-best.j n.0 n.1 c.in-Some.new c.in-Some-best.old n.2 (rw c.in-Some.is at n.3) (rw c.in-Some-best.is at c.requires.best) (sym c.goes_first.ensures ∙ c.if-goes_first.true)

pub returns-else-goes_first : goal.returns-else-goes_first
returns-else-goes_first c = let n = c.requires.new in same_best _ c.args.i c.in-Some-best.j n.0 n.1 c.in-Some.new c.in-Some-best.old n.2 (rw c.in-Some.is at n.3) (rw c.in-Some-best.is at c.requires.best) (sym c.goes_first.ensures ∙ c.if-goes_first.false)
