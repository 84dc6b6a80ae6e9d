use Rattle.std.proofs.Common.{ap, sym, ◌∙◌, is_some}
use Rattle.peg_groups.proofs.FlatBest.{first_place, keep_place, next_place, none_value, same_place}
use Rattle.peg_groups.proofs.flat_best.better.Goals as goal

pub returns-then-is_none-clause-best : goal.returns-then-is_none-clause-best
returns-then-is_none-clause-best c = keep_place c.args.places.now c.args.i c.place_at-place.result.now c.args.best c.place_at-place.ensures (none_value _ (ap is_some (sym c.active_value.ensures) ∙ c.if-is_none.ensures)) c.requires.best

pub returns-in-None-clause-best : goal.returns-in-None-clause-best
returns-in-None-clause-best c = first_place c.args.places.now c.args.i c.place_at-place.result.now c.place_at-place.ensures (ap is_some (sym c.active_value.ensures) ∙ c.if-is_none.ensures) (rw c.in-None.is at c.requires.best)

pub returns-then-goes_first-clause-best : goal.returns-then-goes_first-clause-best
returns-then-goes_first-clause-best c = next_place c.args.places.now c.args.i c.in-Some.j c.place_at-place.result.now c.place_at.result.now c.place_at-place.ensures c.place_at.ensures (ap is_some (sym c.active_value.ensures) ∙ c.if-is_none.ensures) (sym c.if-goes_first.ensures) (rw c.in-Some.is at c.requires.best)

pub returns-else-goes_first-clause-best : goal.returns-else-goes_first-clause-best
returns-else-goes_first-clause-best c = same_place c.args.places.now c.args.i c.in-Some.j c.place_at-place.result.now c.place_at.result.now c.place_at-place.ensures c.place_at.ensures (sym c.if-goes_first.ensures) (rw c.in-Some.is at c.requires.best)
