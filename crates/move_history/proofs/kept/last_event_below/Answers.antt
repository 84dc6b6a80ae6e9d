use Rattle.std.proofs.Common.{◌-◌, sym, arith}
use Rattle.move_history.proofs.LastBelow.{last_below-none, last_below-at}
use Rattle.move_history.proofs.kept.last_event_below.Goals as goal

pub returns-then-lower-eq0-clause-event : goal.returns-then-lower-eq0-clause-event
returns-then-lower-eq0-clause-event g c = sym (last_below-none _ 0 _ (λ i h. c.count_below-lower.ensures.above i (omega arith) h))

pub returns-else-lower-eq0-clause-event : goal.returns-else-lower-eq0-clause-event
returns-else-lower-eq0-clause-event g c =
    last_below-at c.args.cap 0 c.args.kept.now (c.count_below-lower.result - 1) (omega arith)
    (λ i h. c.count_below-lower.ensures.below i (omega arith))
    (λ i h m. c.count_below-lower.ensures.above i (omega arith) m)
