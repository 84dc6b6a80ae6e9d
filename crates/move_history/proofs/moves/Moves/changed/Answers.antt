use Rattle.move_history.proofs.LastBelow.{last_below-above}
use Rattle.move_history.proofs.moves.Moves.changed.Goals as goal

pub returns-clause-same_above : goal.returns-clause-same_above
returns-clause-same_above g c =
    rw (← c.self.view_is, c.last_event_below.ensures.event, c.deref.ensures.value)
    (λ other h k. last_below-above c.self.inside.current c.args.cap other 0 c.self.inside.kept.items h k c.self.invariant.1)
